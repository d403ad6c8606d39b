-- What each call on a form does to the bytes of its buffer. Assumes nothing.
use Rattle.std.specs.Prelude.{◌≡◌, ℕ, ◌+◌, ◌-◌, ◌*◌, min, true, cond, ◌&&◌, List, [], ◌∷◌, length, take, Some, None, Ok, Err, Option, Result, nat_le, nat_lt}
use Rattle.wire.specs.declared.refusal.Reason.TheVariants as reason
use Rattle.wire.specs.declared.refusal.Refusal.{Refusal}
use Rattle.wire.specs.Numbers.{le_bytes}
use Rattle.wire.specs.Refusals.{refusal, located_as, bind}
use Rattle.moves.specs.Moves.{patched, shifted}
use Rattle.types.specs.Meanings.{Meaning}
use Rattle.types.specs.Kinds.{Known}
use Rattle.types.specs.Answers.{blank_of, pattern_of}
use Rattle.schema.specs.Verdicts.{Verdict, rule, ◌then◌}
use Rattle.schema.specs.Sections.{Section}
use Rattle.schema.specs.Structure.{Block, Template, Dictionary}
use Rattle.schema.specs.Geometry.{kind_of, section_geometry}
use Rattle.schema.specs.Reading.{template_of, schema_of, version_of, sections_of}
use Rattle.schema.specs.Seen.{block_length, seen_template}
use Rattle.schema.specs.Finding.{PlacedSection, section_at}
use Rattle.message.specs.Blocks.{block_bytes}
use Rattle.message.specs.Frames.{contents_bytes}
use Rattle.message.specs.Messages.{Message, block_view, view_of, header, frame, is_there, verdict_when}
use Rattle.message.specs.Fronts.{front_message}
use Rattle.calls.specs.Changes.{◌before◌, blank_entry, blank_contents}
use Rattle.calls.specs.Calls.{Numbers, laid}
use Rattle.places.specs.Places.{PlacedField, PlacedGroup, PlacedPart, field_place, group_place, part_place, blank_needed}

-- what a call leaves: the length of the frame, and the buffer
pub record Left : Type 0 where
  pub length : ℕ
  pub bytes : List ℕ

-- as `patched` and `shifted`, where there is room for it
abbrev pub patched_in : ℕ → List ℕ → List ℕ → List ℕ
patched_in p x bs = cond (nat_le (p + length x) (length bs)) (patched p x bs) bs

abbrev pub shifted_in : ℕ → ℕ → ℕ → List ℕ → List ℕ
shifted_in from end to bs = cond (nat_le from end && (nat_le end (length bs) && nat_le (to + (end - from)) (length bs))) (shifted from end to bs) bs

-- a frame has room in a buffer, and is no longer than a frame may be
abbrev pub has_room : ℕ → ℕ → Result (Unit {0}) Refusal
has_room needed room = rule (nat_le needed (min room 16384)) reason.NoRoom needed 0

-- ---- the template that a form is filled in by

-- there is no such form
abbrev pub not_this_form : {X : Type 0} → Result X Refusal
not_this_form = Err (refusal reason.NotThisForm 0 0)

module _ (known : Known) (s buffer : List ℕ) (n : Numbers) where
  -- the section that was found: types and geometry, and then whether the buffer begins with a frame of it
  abbrev pub working_by : Option PlacedSection → Result Section Refusal
  working_by None = not_this_form
  working_by (Some t) =
      section_geometry known (version_of s) t.place t.section
      before cond (is_there (front_message known s n.template n.version n.length buffer)) (Ok t.section) not_this_form

  -- the section of a form's template, where the buffer begins with the form's frame
  abbrev pub working : Result Section Refusal
  working =
      rule (nat_le n.version (version_of s)) reason.NotThisForm 0 0
      before working_by (section_at n.template n.version 7 (sections_of s))

  -- closing: the bytes judged as those of a message that closes
  abbrev pub close_step : Verdict
  close_step =
      bind working (λ _.
      verdict_when true known s (take n.length buffer)
      then rule (nat_le n.length 16384) reason.TooLong 0 0)

-- ---- the calls that fill in, by the template's lines and the bytes

module _ (known : Known) (t : Template) (u n : ℕ) (buffer : List ℕ) where
  -- a pattern at a field
  abbrev pub patch_field : (PlacedField → Result (List ℕ) Refusal) → ℕ → ℕ → ℕ → Result Left Refusal
  patch_field pattern group entry tag =
      bind (field_place u (take n buffer) t group entry tag) (λ f.
      bind (located_as (pattern f) f.place tag) (λ x.
      Ok (record { length = n; bytes = patched_in f.place x buffer })))

  abbrev pub set_step : ℕ → ℕ → ℕ → Meaning → Result Left Refusal
  set_step group entry tag m = patch_field (λ f. pattern_of (kind_of known f.field) m) group entry tag

  abbrev pub clear_step : ℕ → ℕ → ℕ → Result Left Refusal
  clear_step group entry tag = patch_field (λ f. blank_of (kind_of known f.field)) group entry tag

  -- the bytes of a blank entry
  abbrev pub blank_bytes : Block → List ℕ
  blank_bytes b = block_bytes (block_view known b) (blank_entry (block_view known b))

  -- the place behind a group's entries
  abbrev pub entries_end : PlacedGroup → ℕ → ℕ
  entries_end g count = g.place + 3 + count * g.group.block.size

  -- a blank entry behind the others
  abbrev pub entry_added : PlacedGroup → List ℕ
  entry_added g =
      patched_in 0 (le_bytes 2 (n + g.group.block.size))
      (patched_in (g.place + 2) ((g.count + 1) ∷ [])
      (patched_in (entries_end g g.count) (blank_bytes g.group.block)
      (shifted_in (entries_end g g.count) n (entries_end g (g.count + 1)) buffer)))

  abbrev pub append_step : ℕ → Result Left Refusal
  append_step group =
      bind (group_place u (take n buffer) t group) (λ g.
      rule (nat_lt g.count 254) reason.Full (g.place + 2) group
      before has_room (n + g.group.block.size) (length buffer)
      before Ok (record { length = n + g.group.block.size; bytes = entry_added g }))

  -- without the last entry
  abbrev pub entry_removed : PlacedGroup → List ℕ
  entry_removed g =
      patched_in 0 (le_bytes 2 (n - g.group.block.size))
      (patched_in (g.place + 2) ((g.count - 1) ∷ [])
      (shifted_in (entries_end g g.count) n (entries_end g (g.count - 1)) buffer))

  abbrev pub drop_step : ℕ → Result Left Refusal
  drop_step group =
      bind (group_place u (take n buffer) t group) (λ g.
      rule (nat_lt 0 g.count) reason.NotFound 0 group
      before Ok (record { length = n - g.group.block.size; bytes = entry_removed g }))

  -- the content x in place of that of a data
  abbrev pub content_written : PlacedPart → List ℕ → List ℕ
  content_written d x =
      patched_in 0 (le_bytes 2 ((n - d.count) + length x))
      (patched_in (d.place + 1) x
      (patched_in d.place (length x ∷ [])
      (shifted_in (d.place + 1 + d.count) n (d.place + 1 + length x) buffer)))

  abbrev pub write_step : ℕ → List ℕ → Result Left Refusal
  write_step tag x =
      bind (part_place u (take n buffer) t tag) (λ d.
      rule (nat_le (length x) d.part.longest) reason.Full d.place tag
      before has_room ((n - d.count) + length x) (length buffer)
      before Ok (record { length = (n - d.count) + length x; bytes = content_written d x }))

-- ---- opening

module _ (known : Known) (s buffer : List ℕ) (number version : ℕ) where
  -- a blank frame
  abbrev pub blank_frame : Template → List ℕ
  blank_frame t =
      patched 0 (header (blank_needed version t) (block_length version t.root) number (schema_of s) version)
      (patched 12 (contents_bytes (view_of known (seen_template version t)) (blank_contents (view_of known (seen_template version t)))) buffer)

  abbrev pub open_by : Option PlacedSection → Result Left Refusal
  open_by None = Err (refusal reason.CannotOpen 0 0)
  open_by (Some t) =
      section_geometry known (version_of s) t.place t.section
      before has_room (blank_needed version (template_of t.section)) (length buffer)
      before Ok (record { length = blank_needed version (template_of t.section); bytes = blank_frame (template_of t.section) })

  abbrev pub open_step : Result Left Refusal
  open_step =
      rule (nat_le version (version_of s)) reason.CannotOpen 0 0
      before open_by (section_at number version 7 (sections_of s))

-- ---- what the code of a call leaves

-- a call that answers by Left: the buffer and the length, or on a refusal those that were there
abbrev pub Leaves : Result Left Refusal → Result ℕ Refusal → List ℕ → List ℕ → Type 0
Leaves (Ok x) r old new = (r ≡ Ok x.length) × (new ≡ x.bytes)
Leaves (Err e) r old new = (r ≡ Err e) × (new ≡ old)

-- ---- what a message leaves

-- the length of the frame, and the buffer with the frame in front
abbrev pub left_of : Known → Dictionary → List ℕ → Message → Left
left_of known d buffer m = record { length = length (frame known d m); bytes = laid (frame known d m) buffer }

abbrev pub after : Known → Dictionary → List ℕ → Result Message Refusal → Result Left Refusal
after known d buffer (Ok m) = Ok (left_of known d buffer m)
after known d buffer (Err e) = Err e

-- whether a call is refused
abbrev pub verdict_of : Result Message Refusal → Verdict
verdict_of (Ok m) = Ok tt
verdict_of (Err e) = Err e
