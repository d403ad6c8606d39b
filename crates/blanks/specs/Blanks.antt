-- The bytes of blank blocks and of blank contents, and what lets them be written. Assumes nothing.
use Rattle.std.specs.Prelude.{◌≡◌, ℕ, ◌-◌, ◌≤◌, true, List, [], ◌∷◌, ◌++◌, map}
use Rattle.wire.specs.Numbers.{le_bytes}
use Rattle.types.specs.Kinds.{Known}
use Rattle.schema.specs.Structure.{Field, Block, Group, Data, Template}
use Rattle.schema.specs.Geometry.{kind_of, is_known, field_end}
use Rattle.schema.specs.Seen.{seen_fields, seen_template}
use Rattle.schema.specs.Reading.{template_of}
use Rattle.message.specs.Blocks.{BlockView, written, zeros, bytes_from, block_bytes}
use Rattle.message.specs.Frames.{View, parts_bytes, contents_bytes}
use Rattle.message.specs.Messages.{slot_of, data_view}
use Rattle.calls.specs.Changes.{blank_meaning, blank_entry, blank_contents}
use Rattle.dictionary.specs.declared.section.Section.{Section}
use Rattle.dictionary.specs.Shown.{shown_section}
use Rattle.lines.specs.Held.{fields_in}

-- the bytes of a block whose fields are all blank
abbrev pub blank_block : BlockView → List ℕ
blank_block b = block_bytes b (blank_entry b)

-- the bytes behind the header of a message that is all blank: no entries, empty data
abbrev pub blank_bytes : View → List ℕ
blank_bytes v = contents_bytes v (blank_contents v)

-- a block of so many bytes, with the fields that lines begin with as they are seen at a version
abbrev pub block_in : ℕ → ℕ → List ℕ → Block
block_in u size s = record { size = size; fields = seen_fields u (fields_in s) }

-- a template by its lines as it is seen at a version
abbrev pub template_in : ℕ → Section → Template
template_in u t = seen_template u (template_of (shown_section t))

-- ---- part by part

module _ (known : Known) where
  -- each field begins at `at`, where the one before ends, or behind it, and its type is known; the last ends within the block
  abbrev pub Fitting : ℕ → List Field → ℕ → Type 0
  Fitting at [] size = at ≤ size
  Fitting at (f ∷ fs) size = (at ≤ f.offset) × (is_known (kind_of known f) ≡ true) × Fitting (field_end known f) fs size

  -- zeros from `at` up to a field, and its blank
  abbrev pub blank_field : ℕ → Field → List ℕ
  blank_field at f = zeros (f.offset - at) ++ written (kind_of known f) (blank_meaning (kind_of known f))

  -- what stands from `at` on in a blank block
  abbrev pub blank_from : ℕ → List Field → ℕ → List ℕ
  blank_from at fs size = bytes_from at (map (slot_of known) fs) size (map (λ f. blank_meaning f.kind) (map (slot_of known) fs))

-- a group without entries: the length of an entry, and no entry
abbrev pub bare_group : ℕ → List ℕ
bare_group size = le_bytes 2 size ++ (0 ∷ [])

abbrev pub bare_groups : List Group → List ℕ
bare_groups [] = []
bare_groups (g ∷ gs) = bare_group g.block.size ++ bare_groups gs

-- data without bytes
abbrev pub bare_parts : List Data → List ℕ
bare_parts ds = parts_bytes (map data_view ds) (map (λ _. []) (map data_view ds))
