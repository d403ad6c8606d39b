-- Reading by group, entry and tag: of a message, and of a frame's bytes. Assumes nothing.
use Rattle.std.specs.Prelude.{ℕ, zero, suc, ◌+◌, ◌*◌, cond, List, [], ◌∷◌, take, drop, Some, None, Ok, Err, Option, Result, ◌==◌, nat_le, nat_lt}
use Rattle.wire.specs.declared.refusal.Reason.TheVariants as reason
use Rattle.wire.specs.declared.refusal.Refusal.{Refusal}
use Rattle.wire.specs.Refusals.{refusal, located_as, bind}
use Rattle.types.specs.Meanings.{Meaning, absent}
use Rattle.types.specs.Kinds.{Known}
use Rattle.types.specs.Answers.{read_of}
use Rattle.schema.specs.Structure.{Field, Group, Data, Template, Dictionary}
use Rattle.schema.specs.Geometry.{kind_of, width_or_0, section_geometry}
use Rattle.schema.specs.Reading.{template_of, version_of, sections_of}
use Rattle.schema.specs.Seen.{find}
use Rattle.message.specs.Frames.{Contents, entry_length, entry_count, group_length, content_of, part_length}
use Rattle.message.specs.Messages.{Message, stated_root, stated_template, stated_version}
use Rattle.schema.specs.Finding.{PlacedSection, section_at}

-- what is read: what a field means, or the bytes of a data
pub data Reading : Type 0 where
  means : Meaning → Reading
  holds : List ℕ → Reading

-- there is no such group, entry or tag
abbrev pub not_found : ℕ → Result Reading Refusal
not_found tag = Err (refusal reason.NotFound 0 tag)

-- what a field means, as what is read
abbrev pub as_meaning : Result Meaning Refusal → Result Reading Refusal
as_meaning (Ok m) = Ok (means m)
as_meaning (Err e) = Err e

-- what a field answers, if there is one with the tag
abbrev pub of_field : Option (Result Meaning Refusal) → ℕ → Result Reading Refusal
of_field None tag = not_found tag
of_field (Some r) tag = as_meaning r

-- the bytes of a data, if there is one with the tag
abbrev pub of_data : Option (List ℕ) → ℕ → Result Reading Refusal
of_data None tag = not_found tag
of_data (Some x) tag = Ok (holds x)

-- what a field of the root answers, or else a data
abbrev pub of_root : Option (Result Meaning Refusal) → Option (List ℕ) → ℕ → Result Reading Refusal
of_root None x tag = of_data x tag
of_root (Some r) x tag = as_meaning r

-- ---- of a message

-- what the first line with the tag has, of lines beside what they have; a line that is newer than these has d
abbrev pub lookup : {L X : Type 0} → (L → ℕ) → X → List L → List X → ℕ → Option X
lookup tag_of d [] xs tag = None
lookup tag_of d (l ∷ ls) [] tag = cond (tag_of l == tag) (Some d) (lookup tag_of d ls [] tag)
lookup tag_of d (l ∷ ls) (x ∷ xs) tag = cond (tag_of l == tag) (Some x) (lookup tag_of d ls xs tag)

-- what a field means, as an answer that is not refused
abbrev pub answered : Option Meaning → Option (Result Meaning Refusal)
answered None = None
answered (Some m) = Some (Ok m)

-- what an entry, or the root, has at a tag, by the fields of the whole block: absent where a field is newer
abbrev pub meaning_at : List Field → List Meaning → ℕ → Option (Result Meaning Refusal)
meaning_at fs ms tag = answered (lookup (λ f. f.tag) absent fs ms tag)

-- what a message has for a data: nothing where it is newer
abbrev pub data_at : List Data → List (List ℕ) → ℕ → Option (List ℕ)
data_at ds xs tag = lookup (λ d. d.tag) [] ds xs tag

-- the entry, then the tag
abbrev pub in_entries : List Field → List (List Meaning) → ℕ → ℕ → ℕ → Result Reading Refusal
in_entries fs [] group entry tag = not_found group
in_entries fs (ms ∷ es) group zero tag = of_field (meaning_at fs ms tag) tag
in_entries fs (ms ∷ es) group (suc entry) tag = in_entries fs es group entry tag

-- the group, then the entry and the tag
abbrev pub in_groups : List Group → List (List (List Meaning)) → ℕ → ℕ → ℕ → Result Reading Refusal
in_groups [] ess group entry tag = not_found group
in_groups (g ∷ gs) [] group entry tag = not_found group
in_groups (g ∷ gs) (es ∷ ess) group entry tag = cond (g.tag == group) (in_entries g.block.fields es group entry tag) (in_groups gs ess group entry tag)

-- contents, by the lines of the whole template: the root is group 0, with the one entry 0
abbrev pub in_contents : Template → Contents → ℕ → ℕ → ℕ → Result Reading Refusal
in_contents t c group entry tag =
    cond (group == 0)
    (cond (entry == 0) (of_root (meaning_at t.root.fields c.root tag) (data_at t.parts c.parts tag) tag) (not_found 0))
    (in_groups t.groups c.groups group entry tag)

-- contents, by the template if there is one
abbrev pub in_template : Option Template → Contents → ℕ → ℕ → ℕ → Result Reading Refusal
in_template None c group entry tag = not_found group
in_template (Some t) c group entry tag = in_contents t c group entry tag

-- what a message has at a group, an entry and a tag of its template in the dictionary, all of its lines
abbrev pub message_reading : Dictionary → Message → ℕ → ℕ → ℕ → Result Reading Refusal
message_reading d m group entry tag = in_template (find m.template d.templates) m.contents group entry tag

-- ---- of bytes

module _ (known : Known) (u : ℕ) (bs : List ℕ) where
  -- a field of a block that begins at `base`: what its bytes mean, or absent where it is newer than u
  abbrev pub field_reading : ℕ → Field → Result Meaning Refusal
  field_reading base f =
      cond (nat_le f.since u)
      (located_as (read_of (kind_of known f) (take (width_or_0 (kind_of known f)) (drop (base + f.offset) bs))) (base + f.offset) f.tag)
      (Ok absent)

  -- the first field with the tag
  abbrev pub field_at : ℕ → List Field → ℕ → Option (Result Meaning Refusal)
  field_at base [] tag = None
  field_at base (f ∷ fs) tag = cond (f.tag == tag) (Some (field_reading base f)) (field_at base fs tag)

  -- the fields of an entry of the group that begins at p: behind the group's head and the entries before
  abbrev pub entry_at : ℕ → List Field → ℕ → ℕ → ℕ → Result Reading Refusal
  entry_at p fs group entry tag =
      cond (nat_lt entry (entry_count (drop p bs)))
      (of_field (field_at (p + 3 + entry * entry_length (drop p bs)) fs tag) tag)
      (not_found group)

  -- the first group with the tag, of groups of which the first begins at p
  abbrev pub group_at : ℕ → List Group → ℕ → ℕ → ℕ → Result Reading Refusal
  group_at p [] group entry tag = not_found group
  group_at p (g ∷ gs) group entry tag = cond (g.tag == group) (entry_at p g.block.fields group entry tag) (group_at (p + group_length (drop p bs)) gs group entry tag)

-- the first data with the tag, of data of which the first begins at p; nothing where it is newer than u
abbrev pub part_at : ℕ → List ℕ → ℕ → List Data → ℕ → Option (List ℕ)
part_at u bs p [] tag = None
part_at u bs p (d ∷ ds) tag =
    cond (d.tag == tag)
    (Some (cond (nat_le d.since u) (content_of d.prefix (drop p bs)) []))
    (part_at u bs (cond (nat_le d.since u) (p + part_length d.prefix (drop p bs)) p) ds tag)

-- the place behind groups of which the first begins at p
abbrev pub groups_end : List ℕ → ℕ → List Group → ℕ
groups_end bs p [] = p
groups_end bs p (g ∷ gs) = groups_end bs (p + group_length (drop p bs)) gs

-- a frame's bytes, by the lines of the whole template
abbrev pub in_bytes : Known → ℕ → List ℕ → Template → ℕ → ℕ → ℕ → Result Reading Refusal
in_bytes known u bs t group entry tag =
    cond (group == 0)
    (cond (entry == 0) (of_root (field_at known u bs 12 t.root.fields tag) (part_at u bs (groups_end bs (12 + stated_root bs) t.groups) t.parts tag) tag) (not_found 0))
    (group_at known u bs (12 + stated_root bs) t.groups group entry tag)

-- types and geometry of the template, then what its lines read
abbrev pub in_section : Known → ℕ → ℕ → List ℕ → Option PlacedSection → ℕ → ℕ → ℕ → Result Reading Refusal
in_section known version u bs None group entry tag = not_found group
in_section known version u bs (Some t) group entry tag = bind (section_geometry known version t.place t.section) (λ _. in_bytes known u bs (template_of t.section) group entry tag)

-- what the bytes of a frame read at a group, an entry and a tag, under the dictionary that the bytes s are
abbrev pub frame_reading : Known → List ℕ → List ℕ → ℕ → ℕ → ℕ → Result Reading Refusal
frame_reading known s bs group entry tag = in_section known (version_of s) (stated_version bs) bs (section_at (stated_template bs) (stated_version bs) 7 (sections_of s)) group entry tag
