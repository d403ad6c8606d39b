-- Writing a data: what is done to the bytes is what the call says.
use Rattle.std.proofs.Common.{◌≡◌, ℕ, ◌+◌, ◌-◌, ◌%◌, ◌^◌, ◌<◌, ◌≤◌, leb, List, [], ◌∷◌, ◌++◌, length, take, drop, Some, Ok, Err, Result, refl, ap, ◌∙◌, ⊎_elim, arith}
use Rattle.std.specs.List.{AllByRecursion}
use Rattle.std.proofs.lemmas.Bool.{cases_Bool, leb-true}
use Rattle.std.proofs.lemmas.Bool.Decides.{eqb_tells}
use Rattle.wire.specs.declared.refusal.Reason.TheVariants as reason
use Rattle.wire.specs.declared.refusal.Refusal.{Refusal}
use Rattle.wire.specs.Bytes.{Bytes}
use Rattle.wire.specs.Numbers.{le_bytes}
use Rattle.wire.specs.Refusals.{bind}
use Rattle.types.specs.Kinds.{Known, AllLawful}
use Rattle.schema.specs.Verdicts.{rule}
use Rattle.schema.specs.Sections.{Section}
use Rattle.schema.specs.Reading.{template_of, dictionary_of}
use Rattle.schema.specs.Seen.{seen_template}
use Rattle.message.specs.Frames.{DataView, part_bytes, contents_bytes}
use Rattle.message.specs.Messages.{Message, data_view}
use Rattle.calls.specs.Changes.{◌before◌, PartSpot, part_in, part_spot, with_data, needed, with_room}
use Rattle.calls.specs.Calls.{Numbers, write, by_buffer, filled_by, filling}
use Rattle.calls.proofs.Sound.{one_byte_lengths}
use Rattle.calls.proofs.Splits.{IfFound, found, PartSplits, part_splits}
use Rattle.places.specs.Places.{PlacedPart, part_place}
use Rattle.places.specs.Spots.{Counted, counted_part, counted_content}
use Rattle.steps.specs.Steps.{Left, patched_in, shifted_in, has_room, working, write_step, after, left_of}
use Rattle.steps.proofs.Fronts.{form_view, with_contents, HeldFront, step_of_call}
use Rattle.steps.proofs.Leaving.{header_end, buffer_by, left_by, room_left}
use Rattle.steps.proofs.Moved.{regroup, regrouped_long, written_in}

-- ---- a data with a length of one byte

part_one : (from tag : ℕ) (ds : List DataView) (xs : List (List ℕ)) → AllByRecursion (λ d. d.prefix ≡ 1) ds → IfFound (λ d. d.part.prefix ≡ 1) (part_in from ds xs tag)
part_one from tag [] xs h = tt
part_one from tag (d ∷ ds) [] h = tt
part_one from tag (d ∷ ds) (x ∷ xs) h = ⊎_elim (λ a. rw a.0 h.0) (λ a. rw a.0 (part_one (from + length (part_bytes d x)) tag ds xs h.1)) (eqb_tells d.tag tag)

one_byte : (d : DataView) (x : List ℕ) → d.prefix ≡ 1 → length x < 256 → part_bytes d x ≡ length x ∷ x
one_byte d x e l =
    let low : length x % 256 ≡ length x = omega arith in
    ap (λ p. le_bytes p (length x) ++ x) e ∙ ap (λ k. k ∷ x) low

module _ (known : Known) (s buffer : List ℕ) (n : Numbers) (t : Section) (m : Message) (h : HeldFront known s buffer n t m) (tag : ℕ) (x : List ℕ) where
  -- what a content leaves, by the data's place and how many bytes it has
  abbrev put : ℕ → ℕ → Left
  put place count = record {
    length = (n.length - count) + length x;
    bytes =
        patched_in 0 (le_bytes 2 ((n.length - count) + length x))
        (patched_in (place + 1) x
        (patched_in place (length x ∷ [])
        (shifted_in (place + 1 + count) n.length (place + 1 + length x) buffer)));
  }

  abbrev by_count : Counted DataView → Result Left Refusal
  by_count d =
      rule (leb (length x) d.line.longest) reason.Full d.place tag
      before has_room ((n.length - d.count) + length x) (length buffer)
      before Ok (put d.place d.count)

  in_bytes : (d : Result PlacedPart Refusal) → bind (counted_part d) by_count ≡ bind d (λ d. by_count (record { place = d.place; line = data_view d.part; count = d.count }))
  in_bytes (Ok d) = refl
  in_bytes (Err e) = refl

  module _ (d : PartSpot) (one : d.part.prefix ≡ 1) (r : PartSplits (form_view known n t) m.contents tag d) (few : length x ≤ d.part.longest) where
    short : d.part.longest < 256
    short =
        let room = r.room in
        let e : 256 ^ d.part.prefix ≡ 256 ^ 1 = ap (λ k. 256 ^ k) one in
        let is : 256 ^ 1 ≡ 256 = refl in
        omega arith

    was_bytes : contents_bytes (form_view known n t) m.contents ≡ (r.splits x).before ++ (length d.content ∷ (d.content ++ (r.splits x).behind))
    was_bytes =
        let less = r.few in
        let most = short in
        (r.splits x).was ∙ ap (λ y. (r.splits x).before ++ (y ++ (r.splits x).behind)) (one_byte d.part d.content one (omega arith))

    is_bytes : contents_bytes (form_view known n t) (with_data (form_view known n t) m.contents tag x) ≡ (r.splits x).before ++ (length x ∷ (x ++ (r.splits x).behind))
    is_bytes =
        let most = short in
        (r.splits x).is ∙ ap (λ y. (r.splits x).before ++ (y ++ (r.splits x).behind)) (one_byte d.part x one (omega arith))

    written_needed : needed (form_view known n t) (with_data (form_view known n t) m.contents tag x) ≡ (n.length - length d.content) + length x
    written_needed =
        let p = r.splits x in
        let needs = h.needs in
        let was = ap length was_bytes ∙ regrouped_long p.before (length d.content) d.content p.behind in
        let is = ap length is_bytes ∙ regrouped_long p.before (length x) x p.behind in
        omega arith

    written_left : (n.length - length d.content) + length x ≤ length buffer → left_of known (dictionary_of s) buffer (with_contents m (with_data (form_view known n t) m.contents tag x)) ≡ put d.place (length d.content)
    written_left room =
        let p = r.splits x in
        let head = header_end s n t in
        let k = length d.content in
        let need = (n.length - k) + length x in
        let rest = drop n.length buffer in
        let new = drop need buffer in
        let needs = h.needs in
        let at = p.at in
        let ten : length head ≡ 10 = refl in
        let was = ap length was_bytes ∙ regrouped_long p.before k d.content p.behind in
        let split = buffer_by known s buffer n t m h _ (ap (λ y. y ++ rest) was_bytes ∙ regroup p.before k d.content p.behind rest) in
        left_by known s buffer n t m h need (with_data (form_view known n t) m.contents tag x) (p.before ++ (length x ∷ (x ++ (p.behind ++ new)))) (put d.place k).bytes written_needed
        (ap (λ y. y ++ new) is_bytes ∙ regroup p.before (length x) x p.behind new)
        (written_in head n.length need d.place (d.place + 1) (d.place + 1 + k) (d.place + 1 + length x) k p.before d.content x p.behind rest buffer split (omega arith) refl refl refl (omega arith) (omega arith) room)

  in_message : (r : Result PartSpot Refusal) → part_spot (form_view known n t) m.contents tag ≡ r →
      after known (dictionary_of s) buffer (bind (bind r (λ d. rule (leb (length x) d.part.longest) reason.Full d.place tag before with_room (length buffer) (form_view known n t) (with_data (form_view known n t) m.contents tag x))) (λ c. Ok (with_contents m c)))
      ≡ bind (counted_content r) by_count
  in_message (Err e) is = refl
  in_message (Ok d) is =
      let v = form_view known n t in
      let r = part_splits v m.contents h.sound h.right tag d is in
      let one = found (λ d. d.part.prefix ≡ 1) (part_spot v m.contents tag) d (part_one _ tag v.parts m.contents.parts (one_byte_lengths n.version t)) is in
      ⊎_elim
      (λ a.
      let few = leb-true (length x) d.part.longest a in
      let all = room_left known s buffer n t m h ((n.length - length d.content) + length x) (with_data v m.contents tag x) (put d.place (length d.content)).bytes (written_needed d one r few) (written_left d one r few) in
      rw a all)
      (λ a. rw a refl)
      (cases_Bool (leb (length x) d.part.longest))

  -- a content is written into the message that the buffer begins with
  pub content_put : after known (dictionary_of s) buffer (filled_by known (length buffer) (write tag x) m (Some (seen_template n.version (template_of t)))) ≡ write_step known (template_of t) n.version n.length buffer tag x
  content_put =
      in_message (part_spot (form_view known n t) m.contents tag) refl
      ∙ ap (λ d. bind d by_count) (h.places.parts tag)
      ∙ in_bytes (part_place n.version (take n.length buffer) (template_of t) tag)

-- ---- the call

module _ (known : Known) (s buffer : List ℕ) (n : Numbers) (lawful : AllLawful known) (y : Bytes buffer) where
  -- writing moves what follows the content, and puts the new one there behind its length
  pub writes : (tag : ℕ) (x : List ℕ) →
      after known (dictionary_of s) buffer (filling known s (by_buffer known s buffer) (length buffer) n (write tag x))
      ≡ bind (working known s buffer n) (λ t. write_step known (template_of t) n.version n.length buffer tag x)
  writes tag x =
      step_of_call known s buffer n lawful y (write tag x) (λ t. write_step known (template_of t) n.version n.length buffer tag x)
      (λ t m h. content_put known s buffer n t m h tag x)
