-- Where the fields, groups and data of a form lie, found in the bytes of its frame by the lines of its template as they are seen at a version. Assumes nothing.
use Rattle.std.specs.Prelude.{ℕ, ◌+◌, ◌*◌, cond, List, [], ◌∷◌, length, drop, Ok, Result, ◌==◌, nat_lt}
use Rattle.wire.specs.declared.refusal.Refusal.{Refusal}
use Rattle.wire.specs.Refusals.{bind}
use Rattle.schema.specs.Structure.{Field, Group, Data, Template}
use Rattle.schema.specs.Seen.{seen_fields, seen_parts, block_length, seen_group}
use Rattle.message.specs.Frames.{entry_count, content_length, part_length}
use Rattle.calls.specs.Changes.{lacking}

-- a field, and the place of its bytes
pub record PlacedField : Type 0 where
  pub place : ℕ
  pub field : Field

-- a group as it is seen, the place where it begins, and the number of its entries
pub record PlacedGroup : Type 0 where
  pub place : ℕ
  pub group : Group
  pub count : ℕ

-- a data, the place where it begins, and how many bytes it has
pub record PlacedPart : Type 0 where
  pub place : ℕ
  pub part : Data
  pub count : ℕ

-- the first field with the tag, of a block that begins at `base`
abbrev pub field_at : ℕ → List Field → ℕ → Result PlacedField Refusal
field_at base [] tag = lacking tag
field_at base (f ∷ fs) tag = cond (f.tag == tag) (Ok (record { place = base + f.offset; field = f })) (field_at base fs tag)

-- the field of an entry: behind the group's head and the entries before
abbrev pub entry_field_at : ℕ → ℕ → ℕ → PlacedGroup → Result PlacedField Refusal
entry_field_at group entry tag g =
    cond (nat_lt entry g.count)
    (field_at (g.place + 3 + entry * g.group.block.size) g.group.block.fields tag)
    (lacking group)

module _ (u : ℕ) (bs : List ℕ) where
  -- how long the group is that begins at p
  abbrev pub group_span : ℕ → Group → ℕ
  group_span p g = 3 + entry_count (drop p bs) * block_length u g.block

  -- the first group with the tag, of groups of which the first begins at p
  abbrev pub group_at : ℕ → List Group → ℕ → Result PlacedGroup Refusal
  group_at p [] tag = lacking tag
  group_at p (g ∷ gs) tag = cond (g.tag == tag) (Ok (record { place = p; group = seen_group u g; count = entry_count (drop p bs) })) (group_at (p + group_span p g) gs tag)

  -- the place behind groups of which the first begins at p
  abbrev pub behind_groups : ℕ → List Group → ℕ
  behind_groups p [] = p
  behind_groups p (g ∷ gs) = behind_groups (p + group_span p g) gs

  -- the first data with the tag, of data of which the first begins at p
  abbrev pub part_at : ℕ → List Data → ℕ → Result PlacedPart Refusal
  part_at p [] tag = lacking tag
  part_at p (d ∷ ds) tag = cond (d.tag == tag) (Ok (record { place = p; part = d; count = content_length d.prefix (drop p bs) })) (part_at (p + part_length d.prefix (drop p bs)) ds tag)

  -- where the groups begin: behind the header and the root
  abbrev pub first_group : Template → ℕ
  first_group t = 12 + block_length u t.root

  abbrev pub group_place : Template → ℕ → Result PlacedGroup Refusal
  group_place t tag = group_at (first_group t) t.groups tag

  abbrev pub part_place : Template → ℕ → Result PlacedPart Refusal
  part_place t tag = part_at (behind_groups (first_group t) t.groups) (seen_parts u t.parts) tag

  -- a field by group, entry and tag: the root is group 0, with the one entry 0
  abbrev pub field_place : Template → ℕ → ℕ → ℕ → Result PlacedField Refusal
  field_place t group entry tag =
      cond (group == 0)
      (cond (entry == 0) (field_at 12 (seen_fields u t.root.fields) tag) (lacking 0))
      (bind (group_place t group) (entry_field_at group entry tag))

-- ---- a blank form

-- how many bytes the lengths of data take
abbrev pub prefixes : List Data → ℕ
prefixes [] = 0
prefixes (d ∷ ds) = d.prefix + prefixes ds

-- how many bytes the frame of a blank form takes: the header, the root, the head of each group, and the length of each data
abbrev pub blank_needed : ℕ → Template → ℕ
blank_needed u t = 12 + block_length u t.root + 3 * length t.groups + prefixes (seen_parts u t.parts)
