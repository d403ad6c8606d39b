-- Setting and clearing a field: the bytes of the field are others, and no others are.
use Rattle.std.proofs.Common.{◌≡◌, ℕ, ◌+◌, false, cond, List, [], ◌++◌, length, take, drop, Ok, Err, Result, sym, refl, ap, ◌∙◌, subst, arith, length-append}
use Rattle.wire.specs.declared.refusal.Reason.TheVariants as reason
use Rattle.wire.specs.declared.refusal.Refusal.{Refusal}
use Rattle.wire.specs.Bytes.{Bytes}
use Rattle.wire.specs.Refusals.{plain, located_as, bind}
use Rattle.types.specs.Meanings.{Meaning}
use Rattle.types.specs.Kinds.{Known, AllLawful}
use Rattle.types.specs.Answers.{blank_of, pattern_of}
use Rattle.schema.specs.Sections.{Section}
use Rattle.schema.specs.Geometry.{kind_of}
use Rattle.schema.specs.Reading.{template_of, dictionary_of}
use Rattle.message.specs.Blocks.{given_or, written, is_absent, HasPattern}
use Rattle.message.specs.Frames.{Contents, contents_bytes}
use Rattle.message.specs.Messages.{Message, slot_of}
use Rattle.calls.specs.Changes.{FieldSpot, blank_meaning, field_spot, with_field, needed, pattern_of_value}
use Rattle.calls.specs.Calls.{Numbers, set, clear, by_buffer, filling}
use Rattle.calls.proofs.Splits.{SplitFrom, splits_behind, splits_before, field_splits, slot_blank_has_pattern, slot_blank_written, found_field_lawful}
use Rattle.places.specs.Places.{PlacedField, field_place}
use Rattle.places.specs.Spots.{seen_field_spot}
use Rattle.steps.specs.Steps.{Left, patched_in, working, set_step, clear_step, left_of, after}
use Rattle.steps.proofs.Fronts.{HeldFront, form_view, form_header, with_contents, step_of_call, buffer_is, left_changed, patched_in_split}

module _ (known : Known) (s buffer : List ℕ) (n : Numbers) where
  module _ (t : Section) (m : Message) (h : HeldFront known s buffer n t m) (group entry tag : ℕ) where
    -- a field that is found, as a place in the message
    abbrev spot_of : PlacedField → FieldSpot
    spot_of f = record { place = f.place; slot = slot_of known f.field }

    -- the message with another meaning at the field
    abbrev changed : Meaning → Contents
    changed a = with_field (form_view known n t) m.contents group entry tag a

    -- the frame is as long as it was, and the field's bytes are the pattern
    field_patched : (f : PlacedField) → field_spot (form_view known n t) m.contents group entry tag ≡ Ok (spot_of f) → (a : Meaning) (x : List ℕ) → pattern_of (kind_of known f.field) a ≡ Ok x →
        left_of known (dictionary_of s) buffer (with_contents m (changed a)) ≡ record { length = n.length; bytes = patched_in f.place x buffer }
    field_patched f is a x e =
        let v = form_view known n t in
        let c = m.contents in
        let k = kind_of known f.field in
        let rest = drop n.length buffer in
        let pattern : written k a ≡ x = ap (λ r. given_or r []) e in
        let has : HasPattern k a = e ∙ ap Ok (sym pattern) in
        let found = field_splits v c h.sound h.right group entry tag (spot_of f) is in
        let old = written k found.old in
        let new = written k a in
        let same : length new ≡ length old = found.is_long a has ∙ sym found.was_long in
        let cut = found.splits a in
        let was : length (contents_bytes v c) ≡ length cut.before + (length old + length cut.behind) = ap length cut.was ∙ rw (length-append, length-append) refl in
        let now : length (contents_bytes v (changed a)) ≡ length cut.before + (length new + length cut.behind) = ap length cut.is ∙ rw (length-append, length-append) refl in
        let needs = h.needs in
        let long : needed v (changed a) ≡ n.length = omega arith in
        let all : SplitFrom 0 (form_header s n t n.length ++ (contents_bytes v c ++ rest)) (form_header s n t n.length ++ (contents_bytes v (changed a) ++ rest)) f.place old new =
        splits_behind 0 12 _ _ f.place old new (form_header s n t n.length) refl (splits_before 12 _ _ f.place old new cut rest) in
        let bytes : patched_in f.place new buffer ≡ form_header s n t n.length ++ (contents_bytes v (changed a) ++ rest) = patched_in_split _ _ f.place old new buffer all (buffer_is known s buffer n t m h) same in
        left_changed known s buffer n t m h (changed a) n.length (patched_in f.place x buffer) long (sym (subst (λ y. patched_in f.place y buffer ≡ form_header s n t n.length ++ (contents_bytes v (changed a) ++ rest)) pattern bytes))

    -- what is left where the field gets the pattern x
    abbrev left_by : PlacedField → List ℕ → Result Left Refusal
    left_by f x = Ok (record { length = n.length; bytes = patched_in f.place x buffer })

    -- what the calls say of a field that is found
    abbrev set_at : Meaning → FieldSpot → Result Contents Refusal
    set_at a f = bind (located_as (pattern_of_value f.slot.kind a) f.place tag) (λ _. Ok (changed a))

    abbrev clear_at : FieldSpot → Result Contents Refusal
    clear_at f = Ok (changed (blank_meaning f.slot.kind))

    abbrev left_of_change : Result Contents Refusal → Result Left Refusal
    left_of_change r = after known (dictionary_of s) buffer (bind r (λ c. Ok (with_contents m c)))

    set_by_pattern : (f : PlacedField) → field_spot (form_view known n t) m.contents group entry tag ≡ Ok (spot_of f) → (a : Meaning) (r : Result (List ℕ) Refusal) → pattern_of (kind_of known f.field) a ≡ r →
        left_of_change (bind (located_as r f.place tag) (λ _. Ok (changed a))) ≡ bind (located_as r f.place tag) (left_by f)
    set_by_pattern f is a (Err e) p = refl
    set_by_pattern f is a (Ok x) p = ap Ok (field_patched f is a x p)

    set_by_place : (o : Result PlacedField Refusal) → field_spot (form_view known n t) m.contents group entry tag ≡ seen_field_spot known o → (a : Meaning) → is_absent a ≡ false →
        left_of_change (bind (seen_field_spot known o) (set_at a)) ≡ bind o (λ f. bind (located_as (pattern_of (kind_of known f.field) a) f.place tag) (left_by f))
    set_by_place (Err e) is a there = refl
    set_by_place (Ok f) is a there =
        ap (λ b. left_of_change (bind (located_as (cond b (Err (plain reason.NoSuchValue)) (pattern_of (kind_of known f.field) a)) f.place tag) (λ _. Ok (changed a)))) there
        ∙ set_by_pattern f is a (pattern_of (kind_of known f.field) a) refl

    clear_by_place : (o : Result PlacedField Refusal) → field_spot (form_view known n t) m.contents group entry tag ≡ seen_field_spot known o →
        left_of_change (bind (seen_field_spot known o) clear_at) ≡ bind o (λ f. bind (located_as (blank_of (kind_of known f.field)) f.place tag) (left_by f))
    clear_by_place (Err e) is = refl
    clear_by_place (Ok f) is =
        let slot = slot_of known f.field in
        let l = found_field_lawful (form_view known n t) m.contents h.slots group entry tag (spot_of f) is in
        let blank : pattern_of (kind_of known f.field) (blank_meaning (kind_of known f.field)) ≡ Ok l.kind.blank = slot_blank_has_pattern slot l ∙ ap Ok (slot_blank_written slot l) in
        ap Ok (field_patched f is (blank_meaning (kind_of known f.field)) l.kind.blank blank)
        ∙ ap (λ k. bind (located_as (blank_of k) f.place tag) (left_by f)) (sym l.is)

    set_held : (a : Meaning) → is_absent a ≡ false → left_of_change (bind (field_spot (form_view known n t) m.contents group entry tag) (set_at a)) ≡ set_step known (template_of t) n.version n.length buffer group entry tag a
    set_held a there =
        let is = h.places.fields group entry tag in
        ap (λ o. left_of_change (bind o (set_at a))) is ∙ set_by_place (field_place n.version (take n.length buffer) (template_of t) group entry tag) is a there

    clear_held : left_of_change (bind (field_spot (form_view known n t) m.contents group entry tag) clear_at) ≡ clear_step known (template_of t) n.version n.length buffer group entry tag
    clear_held =
        let is = h.places.fields group entry tag in
        ap (λ o. left_of_change (bind o clear_at)) is ∙ clear_by_place (field_place n.version (take n.length buffer) (template_of t) group entry tag) is

  module _ (lawful : AllLawful known) (y : Bytes buffer) where
    -- setting a field patches it
    pub sets : (group entry tag : ℕ) (a : Meaning) → is_absent a ≡ false →
        after known (dictionary_of s) buffer (filling known s (by_buffer known s buffer) (length buffer) n (set group entry tag a))
        ≡ bind (working known s buffer n) (λ t. set_step known (template_of t) n.version n.length buffer group entry tag a)
    sets group entry tag a there =
        step_of_call known s buffer n lawful y (set group entry tag a) (λ t. set_step known (template_of t) n.version n.length buffer group entry tag a)
        (λ t m h. set_held t m h group entry tag a there)

    -- clearing a field patches it with its blank
    pub clears : (group entry tag : ℕ) →
        after known (dictionary_of s) buffer (filling known s (by_buffer known s buffer) (length buffer) n (clear group entry tag))
        ≡ bind (working known s buffer n) (λ t. clear_step known (template_of t) n.version n.length buffer group entry tag)
    clears group entry tag =
        step_of_call known s buffer n lawful y (clear group entry tag) (λ t. clear_step known (template_of t) n.version n.length buffer group entry tag)
        (λ t m h. clear_held t m h group entry tag)
