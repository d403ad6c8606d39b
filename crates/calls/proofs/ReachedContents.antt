-- From the contents of a new message to any contents that a message may hold, by calls that are all accepted where the whole has room.
use Rattle.std.proofs.Common.{◌≡◌, ℕ, ◌+◌, ◌*◌, ◌^◌, ◌<◌, ◌≤◌, min, Bool, true, false, cond, eqb, ltb, leb, List, [], ◌∷◌, ◌++◌, map, length, Ok, Err, Result, refl, ap, ◌∙◌, arith, length-append}
use Rattle.std.specs.List.{AllByRecursion}
use Rattle.std.proofs.lemmas.Bool.{le-leb, lt-ltb, ne_eqb}
use Rattle.wire.specs.declared.refusal.Reason.TheVariants as reason
use Rattle.wire.specs.declared.refusal.Refusal.{Refusal}
use Rattle.wire.specs.Refusals.{refusal, located_as, bind}
use Rattle.types.specs.Meanings.{Meaning}
use Rattle.schema.specs.Verdicts.{fine, rule}
use Rattle.schema.specs.WellFormed.{Distinct}
use Rattle.message.specs.Blocks.{block_bytes}
use Rattle.message.specs.Frames.{GroupView, View, Contents, group_bytes, groups_bytes, parts_bytes, Holds}
use Rattle.calls.specs.Changes.{◌before◌, blank_contents, FieldSpot, group_spot, field_of_entry, field_spot, with_meaning, with_element, one_more, with_field, with_group, with_data, needed, with_room, pattern_of_value, has_room_for_entry, set_field}
use Rattle.calls.specs.Calls.{Fill, set, append, write, SayableFill, filled}
use Rattle.calls.proofs.Steps.{Steps, over, more, steps_on, steps_within}
use Rattle.calls.proofs.ReachedFields.{GoodSlot, OneSet, fields_reached}
use Rattle.calls.proofs.ReachedGroups.{EntryStep, appends, sets, entries_grow, GroupStands, GroupStep, in_group, GoodGroupView, groups_reached}
use Rattle.calls.proofs.ReachedParts.{OneWrite, parts_reached}

-- ---- a call that fills in

-- a call that can be made and leads from contents to contents, in every buffer that has room for these; the frame does not get shorter
pub record FillStep (v : View) (c after : Contents) : Type 0 where
  pub call : Fill
  pub sayable : SayableFill call
  pub accepted : (room : ℕ) → needed v after ≤ min room 16384 → filled room v c call ≡ Ok after
  pub grows : needed v c ≤ needed v after

-- the frame does not get shorter where no part of it does
contents_grow : (v : View) (c after : Contents) → length (block_bytes v.root c.root) ≤ length (block_bytes v.root after.root) → length (groups_bytes v.groups c.groups) ≤ length (groups_bytes v.groups after.groups) → length (parts_bytes v.parts c.parts) ≤ length (parts_bytes v.parts after.parts) → needed v c ≤ needed v after
contents_grow v c after root groups parts =
    rw (
      length-append (block_bytes v.root c.root) (groups_bytes v.groups c.groups ++ parts_bytes v.parts c.parts),
      length-append (groups_bytes v.groups c.groups) (parts_bytes v.parts c.parts),
      length-append (block_bytes v.root after.root) (groups_bytes v.groups after.groups ++ parts_bytes v.parts after.parts),
      length-append (groups_bytes v.groups after.groups) (parts_bytes v.parts after.parts),
    ) (omega arith)

-- a rule that holds in front of an answer
pub rule_before : {X : Type 0} (b : Bool) (e : Refusal) (r : Result X Refusal) → b ≡ true → cond b fine (Err e) before r ≡ r
rule_before true e r h = refl
rule_before false e r h = let z : ◌≡◌ {A = ℕ} 0 1 = cc in absurd (omega arith)

pub roomy : (room : ℕ) (v : View) (c : Contents) → needed v c ≤ min room 16384 → with_room room v c ≡ Ok c
roomy room v c l = rule_before (leb (needed v c) (min room 16384)) (refusal reason.NoRoom (needed v c) 0) (Ok c) (le-leb (needed v c) (min room 16384) l)

-- a field that is there takes a value that has a pattern
set_accepted : (room : ℕ) (v : View) (c : Contents) (group entry tag : ℕ) (m : Meaning) (f : FieldSpot) (p : List ℕ) → field_spot v c group entry tag ≡ Ok f → pattern_of_value f.slot.kind m ≡ Ok p → set_field room v c group entry tag m ≡ Ok (with_field v c group entry tag m)
set_accepted room v c group entry tag m f p e h =
    ap (λ r. bind r (λ x. bind (located_as (pattern_of_value x.slot.kind m) x.place tag) (λ _. Ok (with_field v c group entry tag m)))) e
    ∙ ap (λ r. bind (located_as r f.place tag) (λ _. Ok (with_field v c group entry tag m))) h

-- ---- a field of the root

root_step : (v : View) (ess : List (List (List Meaning))) (xs : List (List ℕ)) (ms after : List Meaning) → OneSet v.root.slots ms after → FillStep v (record { root = ms; groups = ess; parts = xs }) (record { root = after; groups = ess; parts = xs })
root_step v ess xs ms after s =
    let c : Contents = record { root = ms; groups = ess; parts = xs } in
    record {
      call = set 0 0 s.slot.tag s.value;
      sayable = ((omega arith, omega arith), s.tag_fits, s.there, s.sayable);
      accepted = λ room _. set_accepted room v c 0 0 s.slot.tag s.value (record { place = 12 + s.slot.offset; slot = s.slot }) _ (s.found 12) s.has ∙ ap (λ x. Ok (record { root = x; groups = ess; parts = xs })) s.leaves;
      grows = contents_grow v c (record { root = after; groups = ess; parts = xs }) (s.grows 0 v.root.size) (omega arith) (omega arith);
    }

-- ---- an entry, and a field of the last entry

with_last : (h : List Meaning → List Meaning) (es : List (List Meaning)) (ms : List Meaning) → with_element h (length es) (es ++ (ms ∷ [])) ≡ es ++ (h ms ∷ [])
with_last h [] ms = refl
with_last h (x ∷ es) ms = ap (λ r. x ∷ r) (with_last h es ms)

group_grows : (g : GroupView) (es after : List (List Meaning)) → EntryStep g.block es after → length (group_bytes g es) ≤ length (group_bytes g after)
group_grows g es after s = let l = entries_grow g.block es after s in omega arith

module _ (v : View) (ms : List Meaning) (xs : List (List ℕ)) where
  abbrev holding : List (List (List Meaning)) → Contents
  holding ess = record { root = ms; groups = ess; parts = xs }

  module _ (g : GroupView) (put : List (List Meaning) → List (List (List Meaning))) (fits : g.tag < 2 ^ 32) (inner : g.tag ≡ 0 → ⊥) (stands : GroupStands v.groups g put) where
    entry_grows : (es after : List (List Meaning)) → EntryStep g.block es after → needed v (holding (put es)) ≤ needed v (holding (put after))
    entry_grows es after s = contents_grow v (holding (put es)) (holding (put after)) (omega arith) (stands.grows es after (group_grows g es after s)) (omega arith)

    append_accepted : (es after : List (List Meaning)) → length es < 254 → one_more g es ≡ after → (room : ℕ) → needed v (holding (put after)) ≤ min room 16384 → filled room v (holding (put es)) (append g.tag) ≡ Ok (holding (put after))
    append_accepted es after few e room l =
        let is : with_group v (holding (put es)) one_more g.tag ≡ holding (put after) = ap holding (stands.changed one_more es ∙ ap put e) in
        ap (λ r. bind r (λ x. rule (has_room_for_entry x.entries) reason.Full (x.place + 2) g.tag before with_room room v (with_group v (holding (put es)) one_more g.tag))) (stands.found (12 + v.root.size) es)
        ∙ rule_before (ltb (length es) 254) (refusal reason.Full (stands.place (12 + v.root.size) + 2) g.tag) (with_room room v (with_group v (holding (put es)) one_more g.tag)) (lt-ltb (length es) 254 few)
        ∙ ap (with_room room v) is
        ∙ roomy room v (holding (put after)) l

    -- the field is found, behind the entries before
    last_found : (es : List (List Meaning)) (old new : List Meaning) (s : OneSet g.block.slots old new) → field_spot v (holding (put (es ++ (old ∷ [])))) g.tag (length es) s.slot.tag ≡ Ok (record { place = stands.place (12 + v.root.size) + 3 + length es * g.block.size + s.slot.offset; slot = s.slot })
    last_found es old new s =
        let c = holding (put (es ++ (old ∷ []))) in
        let long : length (es ++ (old ∷ [])) ≡ length es + 1 = length-append es (old ∷ []) in
        let outer : eqb g.tag 0 ≡ false = ne_eqb g.tag 0 inner in
        let there : ltb (length es) (length (es ++ (old ∷ []))) ≡ true = lt-ltb (length es) (length (es ++ (old ∷ []))) (omega arith) in
        let base = stands.place (12 + v.root.size) + 3 + length es * g.block.size in
        let found : group_spot v c g.tag ≡ Ok (record { place = stands.place (12 + v.root.size); group = g; entries = es ++ (old ∷ []) }) = stands.found (12 + v.root.size) (es ++ (old ∷ [])) in
        rw outer (ap (λ r. bind r (field_of_entry g.tag (length es) s.slot.tag)) found ∙ rw there (s.found base))

    set_last : (room : ℕ) (es : List (List Meaning)) (old new : List Meaning) (s : OneSet g.block.slots old new) → filled room v (holding (put (es ++ (old ∷ [])))) (set g.tag (length es) s.slot.tag s.value) ≡ Ok (holding (put (es ++ (new ∷ []))))
    set_last room es old new s =
        let c = holding (put (es ++ (old ∷ []))) in
        let outer : eqb g.tag 0 ≡ false = ne_eqb g.tag 0 inner in
        let is : with_field v c g.tag (length es) s.slot.tag s.value ≡ holding (put (es ++ (new ∷ []))) =
        rw outer (ap holding (stands.changed (λ h fs. with_element (with_meaning s.slot.tag s.value h.block.slots) (length es) fs) (es ++ (old ∷ []))
        ∙ ap put (with_last (with_meaning s.slot.tag s.value g.block.slots) es old ∙ ap (λ x. es ++ (x ∷ [])) s.leaves))) in
        set_accepted room v c g.tag (length es) s.slot.tag s.value _ _ (last_found es old new s) s.has ∙ ap Ok is

    entry_step : (es after : List (List Meaning)) → EntryStep g.block es after → FillStep v (holding (put es)) (holding (put after))
    entry_step _ _ (appends es few) = record {
      call = append g.tag;
      sayable = fits;
      accepted = append_accepted es (one_more g es) few refl;
      grows = entry_grows es (one_more g es) (appends es few);
    }
    entry_step _ _ (sets es old new few s) = record {
      call = set g.tag (length es) s.slot.tag s.value;
      sayable = ((fits, omega arith), s.tag_fits, s.there, s.sayable);
      accepted = λ room _. set_last room es old new s;
      grows = entry_grows (es ++ (old ∷ [])) (es ++ (new ∷ [])) (sets es old new few s);
    }

  group_step : (ess after : List (List (List Meaning))) → GroupStep v.groups ess after → FillStep v (holding ess) (holding after)
  group_step _ _ (in_group g put es after fits inner stands s) = entry_step g put fits inner stands es after s

-- ---- a data

part_step : (v : View) (ms : List Meaning) (ess : List (List (List Meaning))) (xs after : List (List ℕ)) → OneWrite v.parts xs after → FillStep v (record { root = ms; groups = ess; parts = xs }) (record { root = ms; groups = ess; parts = after })
part_step v ms ess xs after s =
    let c : Contents = record { root = ms; groups = ess; parts = xs } in
    let d : Contents = record { root = ms; groups = ess; parts = after } in
    let p = 12 + v.root.size + length (groups_bytes v.groups ess) in
    let is : with_data v c s.part.tag s.new ≡ d = ap (λ x. record { root = ms; groups = ess; parts = x }) s.leaves in
    record {
      call = write s.part.tag s.new;
      sayable = (s.tag_fits, s.bytes);
      accepted = λ room l.
          ap (λ r. bind r (λ x. rule (leb (length s.new) x.part.longest) reason.Full x.place s.part.tag before with_room room v (with_data v c s.part.tag s.new))) (s.found p)
          ∙ rule_before (leb (length s.new) s.part.longest) (refusal reason.Full (s.place p) s.part.tag) (with_room room v (with_data v c s.part.tag s.new)) (le-leb (length s.new) s.part.longest s.short)
          ∙ ap (with_room room v) is
          ∙ roomy room v d l;
      grows = contents_grow v c d (omega arith) (omega arith) s.grows;
    }

-- ---- the whole

-- a template of good fields, groups and data that differ in their tags
pub record GoodView (v : View) : Type 0 where
  pub root : AllByRecursion GoodSlot v.root.slots
  pub root_tags : Distinct (map (λ f. f.tag) v.root.slots)
  pub groups : AllByRecursion GoodGroupView v.groups
  pub group_tags : Distinct (map (λ g. g.tag) v.groups)
  pub parts : AllByRecursion (λ d. d.tag < 2 ^ 32) v.parts
  pub part_tags : Distinct (map (λ d. d.tag) v.parts)

-- root, groups and data, one after the other
pub contents_reached : (v : View) (c : Contents) → GoodView v → Holds true v c → Steps (FillStep v) (blank_contents v) c
contents_reached v c good h =
    let ess = map (λ _. []) v.groups in
    let xs = map (λ _. []) v.parts in
    steps_on
    (steps_within (λ ms. record { root = ms; groups = ess; parts = xs }) (root_step v ess xs) (fields_reached v.root.slots c.root good.root good.root_tags h.root.0))
    (steps_on
    (steps_within (λ x. record { root = c.root; groups = x; parts = xs }) (group_step v c.root xs) (groups_reached v.groups c.groups good.groups good.group_tags h.groups))
    (steps_within (λ x. record { root = c.root; groups = c.groups; parts = x }) (part_step v c.root c.groups) (parts_reached v.parts c.parts good.parts good.part_tags h.parts)))

-- what comes later is not shorter
pub never_shorter : (v : View) (c after : Contents) → Steps (FillStep v) c after → needed v c ≤ needed v after
never_shorter v c _ over = omega arith
never_shorter v c after (more {b} s w) = let l = s.grows in let r = never_shorter v b after w in omega arith
