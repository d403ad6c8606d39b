-- Where in a frame's bytes lies what is read at a group, an entry and a tag. Assumes nothing.
use Rattle.std.specs.Prelude.{◌≡◌, ℕ, ◌+◌, ◌*◌, cond, List, [], ◌∷◌, take, drop, Some, None, Ok, Err, Option, Result, ◌==◌, nat_le, nat_lt}
use Rattle.wire.specs.declared.refusal.Reason.TheVariants as reason
use Rattle.wire.specs.declared.refusal.Refusal.{Refusal}
use Rattle.wire.specs.Refusals.{refusal, located_as, bind}
use Rattle.types.specs.Meanings.{absent}
use Rattle.types.specs.Kinds.{Known}
use Rattle.types.specs.Answers.{read_of}
use Rattle.schema.specs.Structure.{Field, Group, Data, Template}
use Rattle.schema.specs.Geometry.{kind_of, width_or_0, section_geometry}
use Rattle.schema.specs.Reading.{template_of, version_of, sections_of}
use Rattle.message.specs.Frames.{entry_length, entry_count, group_length, content_length, part_length}
use Rattle.message.specs.Messages.{stated_root, stated_template, stated_version}
use Rattle.schema.specs.Finding.{PlacedSection, section_at}
use Rattle.message.specs.Lookup.{Reading, means, holds, as_meaning, groups_end, frame_reading}

-- a field with the place of its bytes; a data with the place of its content and how many bytes that has; a field or a data that is newer than the frame and has no bytes in it
pub data Spot : Type 0 where
  field : ℕ → Field → Spot
  part : ℕ → ℕ → Spot
  newer_field : Spot
  newer_part : Spot

-- where a spot begins; 0 where it has no bytes
abbrev pub spot_place : Spot → ℕ
spot_place (field place f) = place
spot_place (part place n) = place
spot_place newer_field = 0
spot_place newer_part = 0

-- how many bytes it has
abbrev pub spot_length : Known → Spot → ℕ
spot_length known (field place f) = width_or_0 (kind_of known f)
spot_length known (part place n) = n
spot_length known newer_field = 0
spot_length known newer_part = 0

-- what the bytes there read
abbrev pub spot_reading : Known → List ℕ → Spot → Result Reading Refusal
spot_reading known bs (field place f) = as_meaning (located_as (read_of (kind_of known f) (take (width_or_0 (kind_of known f)) (drop place bs))) place f.tag)
spot_reading known bs (part place n) = Ok (holds (take n (drop place bs)))
spot_reading known bs newer_field = Ok (means absent)
spot_reading known bs newer_part = Ok (holds [])

-- there is no such group, entry or tag
abbrev pub no_spot : ℕ → Result Spot Refusal
no_spot tag = Err (refusal reason.NotFound 0 tag)

-- the spot of a tag, if there is one
abbrev pub spot_or : Option Spot → ℕ → Result Spot Refusal
spot_or None tag = no_spot tag
spot_or (Some x) tag = Ok x

-- the first of two that is there
abbrev pub first_of : Option Spot → Option Spot → Option Spot
first_of None y = y
first_of (Some x) y = Some x

module _ (u : ℕ) (bs : List ℕ) where
  -- the first field with the tag, of a block that begins at `base`
  abbrev pub field_spot : ℕ → List Field → ℕ → Option Spot
  field_spot base [] tag = None
  field_spot base (f ∷ fs) tag = cond (f.tag == tag) (Some (cond (nat_le f.since u) (field (base + f.offset) f) newer_field)) (field_spot base fs tag)

  -- the first data with the tag, of data of which the first begins at p
  abbrev pub part_spot : ℕ → List Data → ℕ → Option Spot
  part_spot p [] tag = None
  part_spot p (d ∷ ds) tag =
      cond (d.tag == tag)
      (Some (cond (nat_le d.since u) (part (p + d.prefix) (content_length d.prefix (drop p bs))) newer_part))
      (part_spot (cond (nat_le d.since u) (p + part_length d.prefix (drop p bs)) p) ds tag)

  -- the entry, then the tag, of the group that begins at p
  abbrev pub entry_spot : ℕ → List Field → ℕ → ℕ → ℕ → Result Spot Refusal
  entry_spot p fs group entry tag =
      cond (nat_lt entry (entry_count (drop p bs)))
      (spot_or (field_spot (p + 3 + entry * entry_length (drop p bs)) fs tag) tag)
      (no_spot group)

  -- the first group with the tag, of groups of which the first begins at p
  abbrev pub group_spot : ℕ → List Group → ℕ → ℕ → ℕ → Result Spot Refusal
  group_spot p [] group entry tag = no_spot group
  group_spot p (g ∷ gs) group entry tag = cond (g.tag == group) (entry_spot p g.block.fields group entry tag) (group_spot (p + group_length (drop p bs)) gs group entry tag)

  -- by the lines of the whole template: the root is group 0, with the one entry 0
  abbrev pub template_spot : Template → ℕ → ℕ → ℕ → Result Spot Refusal
  template_spot t group entry tag =
      cond (group == 0)
      (cond (entry == 0) (spot_or (first_of (field_spot 12 t.root.fields tag) (part_spot (groups_end bs (12 + stated_root bs) t.groups) t.parts tag)) tag) (no_spot 0))
      (group_spot (12 + stated_root bs) t.groups group entry tag)

-- types and geometry of the template, then the spot by its lines
abbrev pub section_spot : Known → ℕ → ℕ → List ℕ → Option PlacedSection → ℕ → ℕ → ℕ → Result Spot Refusal
section_spot known version u bs None group entry tag = no_spot group
section_spot known version u bs (Some t) group entry tag = bind (section_geometry known version t.place t.section) (λ _. template_spot u bs (template_of t.section) group entry tag)

-- where a group, an entry and a tag lie in a frame, under the dictionary that the bytes s are
abbrev pub frame_spot : Known → List ℕ → List ℕ → ℕ → ℕ → ℕ → Result Spot Refusal
frame_spot known s bs group entry tag = section_spot known (version_of s) (stated_version bs) bs (section_at (stated_template bs) (stated_version bs) 7 (sections_of s)) group entry tag

-- Reading a frame is to find the spot and to read it, for every library, dictionary and frame.
abbrev pub ReadsItsSpots : Known → List ℕ → List ℕ → Type 0
ReadsItsSpots known s bs = (group entry tag : ℕ) → frame_reading known s bs group entry tag ≡ bind (frame_spot known s bs group entry tag) (spot_reading known bs)
