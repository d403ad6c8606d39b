-- The items of a frame in the order of its bytes. Assumes nothing.
use Rattle.std.specs.Prelude.{◌≡◌, ℕ, zero, suc, ◌+◌, ◌-◌, ◌≤◌, List, [], ◌∷◌, ◌++◌, length, take, drop, Some, None, Ok, Option, Result}
use Rattle.wire.specs.declared.refusal.Refusal.{Refusal}
use Rattle.wire.specs.Refusals.{bind}
use Rattle.types.specs.Meanings.{Meaning}
use Rattle.types.specs.Kinds.{Known}
use Rattle.schema.specs.Structure.{Field, Group, Data, Template, Dictionary}
use Rattle.schema.specs.Geometry.{kind_of, width_or_0, section_geometry}
use Rattle.schema.specs.Reading.{template_of, version_of, sections_of}
use Rattle.schema.specs.Seen.{seen_template, template_at}
use Rattle.message.specs.Blocks.{read_as}
use Rattle.message.specs.Frames.{Contents, entry_length, entry_count, group_length, content_of, part_length}
use Rattle.message.specs.Messages.{Message, stated_root, stated_template, stated_version}
use Rattle.schema.specs.Finding.{PlacedSection, section_at}
use Rattle.message.specs.Lookup.{groups_end}

-- an item: a field with its place, tag, type, argument and bytes; a group with its place, tag, count and the three bytes of its head; a data with the place of its content, its tag and its content
pub data Item : Type 0 where
  field : ℕ → ℕ → ℕ → List ℕ → List ℕ → Item
  group : ℕ → ℕ → ℕ → List ℕ → Item
  part : ℕ → ℕ → List ℕ → Item

-- where an item's bytes begin
abbrev pub place_of : Item → ℕ
place_of (field place tag type argument bytes) = place
place_of (group place tag count head) = place
place_of (part place tag content) = place

-- what an item's bytes are
abbrev pub bytes_of : Item → List ℕ
bytes_of (field place tag type argument bytes) = bytes
bytes_of (group place tag count head) = head
bytes_of (part place tag content) = content

module _ (known : Known) (bs : List ℕ) where
  -- the fields of a block that begins at `base`
  abbrev pub block_items : ℕ → List Field → List Item
  block_items base [] = []
  block_items base (f ∷ fs) = field (base + f.offset) f.tag f.type f.argument (take (width_or_0 (kind_of known f)) (drop (base + f.offset) bs)) ∷ block_items base fs

  -- those of n entries, each `stride` bytes long, from p on
  abbrev pub entries_items : List Field → ℕ → ℕ → ℕ → List Item
  entries_items fs stride zero p = []
  entries_items fs stride (suc n) p = block_items p fs ++ entries_items fs stride n (p + stride)

  -- each group, and then those of its entries
  abbrev pub groups_items : ℕ → List Group → List Item
  groups_items p [] = []
  groups_items p (g ∷ gs) =
      group p g.tag (entry_count (drop p bs)) (take 3 (drop p bs))
      ∷ (entries_items g.block.fields (entry_length (drop p bs)) (entry_count (drop p bs)) (p + 3) ++ groups_items (p + group_length (drop p bs)) gs)

-- the content of each data, of data of which the first begins at p
abbrev pub parts_items : List ℕ → ℕ → List Data → List Item
parts_items bs p [] = []
parts_items bs p (d ∷ ds) = part (p + d.prefix) d.tag (content_of d.prefix (drop p bs)) ∷ parts_items bs (p + part_length d.prefix (drop p bs)) ds

-- the items of a frame's bytes, by a template as seen at the frame's version
abbrev pub items_by : Known → List ℕ → Template → List Item
items_by known bs t =
    block_items known bs 12 t.root.fields
    ++ (groups_items known bs (12 + stated_root bs) t.groups
    ++ parts_items bs (groups_end bs (12 + stated_root bs) t.groups) t.parts)

-- types and geometry of the template, then the items; none where there is no such template
abbrev pub items_in : Known → ℕ → ℕ → List ℕ → Option PlacedSection → Result (List Item) Refusal
items_in known version u bs None = Ok []
items_in known version u bs (Some t) = bind (section_geometry known version t.place t.section) (λ _. Ok (items_by known bs (seen_template u (template_of t.section))))

-- the items of a frame under the dictionary that the bytes s are
abbrev pub frame_items : Known → List ℕ → List ℕ → Result (List Item) Refusal
frame_items known s bs = items_in known (version_of s) (stated_version bs) bs (section_at (stated_template bs) (stated_version bs) 7 (sections_of s))

-- ---- what items and the bytes between them make up

-- from p up to q the items follow one another, each where it says it is; what lies between them is padding, lengths and what is passed over
abbrev pub LaidOut : List ℕ → ℕ → ℕ → List Item → Type 0
LaidOut bs p q [] = p ≤ q
LaidOut bs p q (i ∷ is) = (p ≤ place_of i) × (bytes_of i ≡ take (length (bytes_of i)) (drop (place_of i) bs)) × LaidOut bs (place_of i + length (bytes_of i)) q is

-- the items' bytes, with the bytes of bs that lie between and behind them, from p on
abbrev pub filled_out : List ℕ → ℕ → List Item → List ℕ
filled_out bs p [] = drop p bs
filled_out bs p (i ∷ is) = take (place_of i - p) (drop p bs) ++ (bytes_of i ++ filled_out bs (place_of i + length (bytes_of i)) is)

-- ---- what items tell, and what a message holds, in the same order

-- a field's tag and meaning, a group's tag and the number of its entries, a data's tag and bytes
pub data Told : Type 0 where
  told_field : ℕ → Meaning → Told
  told_group : ℕ → ℕ → Told
  told_part : ℕ → List ℕ → Told

-- what an item tells; a field through the library
abbrev pub told_by : Known → Item → Told
told_by known (field place tag type argument bytes) = told_field tag (read_as (known type argument) bytes)
told_by known (group place tag count head) = told_group tag count
told_by known (part place tag content) = told_part tag content

-- the meanings of a block, by its fields
abbrev pub told_block : List Field → List Meaning → List Told
told_block [] ms = []
told_block (f ∷ fs) [] = []
told_block (f ∷ fs) (m ∷ ms) = told_field f.tag m ∷ told_block fs ms

-- entry after entry
abbrev pub told_entries : List Field → List (List Meaning) → List Told
told_entries fs [] = []
told_entries fs (ms ∷ es) = told_block fs ms ++ told_entries fs es

-- each group, and then its entries
abbrev pub told_groups : List Group → List (List (List Meaning)) → List Told
told_groups [] ess = []
told_groups (g ∷ gs) [] = []
told_groups (g ∷ gs) (es ∷ ess) = told_group g.tag (length es) ∷ (told_entries g.block.fields es ++ told_groups gs ess)

-- the bytes of each data
abbrev pub told_parts : List Data → List (List ℕ) → List Told
told_parts [] xs = []
told_parts (d ∷ ds) [] = []
told_parts (d ∷ ds) (x ∷ xs) = told_part d.tag x ∷ told_parts ds xs

-- all that contents hold, by a template as seen at the message's version
abbrev pub told_contents : Template → Contents → List Told
told_contents t c = told_block t.root.fields c.root ++ (told_groups t.groups c.groups ++ told_parts t.parts c.parts)

abbrev pub told_template : Option Template → Contents → List Told
told_template None c = []
told_template (Some t) c = told_contents t c

-- all that a message holds, in the order of its frame
abbrev pub told_message : Dictionary → Message → List Told
told_message d m = told_template (template_at d m.template m.version) m.contents
