-- What a message may hold, it may hold after each call that is not refused; and it has room.
use Rattle.std.proofs.Common.{◌≡◌, ℕ, zero, suc, ◌+◌, ◌-◌, ◌*◌, ◌≤◌, min, Bool, true, false, cond, eqb, ltb, leb, List, [], ◌∷◌, ◌++◌, map, length, take, Some, None, Ok, Err, Option, Result, refl, ap, ⊎_elim, mul-le-mul_right, arith, length-append}
use Rattle.std.specs.List.{AllByRecursion}
use Rattle.std.proofs.lemmas.Bool.{leb-true, ltb-true, cases_Bool}
use Rattle.std.proofs.lemmas.Bool.Decides.{eqb_tells}
use Rattle.wire.specs.declared.refusal.Reason.TheVariants as reason
use Rattle.wire.specs.declared.refusal.Refusal.{Refusal}
use Rattle.wire.specs.Bytes.{Bytes}
use Rattle.wire.specs.Refusals.{plain, located_as, bind}
use Rattle.types.specs.Meanings.{Meaning}
use Rattle.types.specs.Kinds.{Kind}
use Rattle.types.specs.Answers.{or_refused, pattern_of}
use Rattle.schema.specs.Verdicts.{Verdict, rule, ◌then◌}
use Rattle.message.specs.Blocks.{Slot, BlockView, given_or, is_absent, present, HasPattern, Filled, Complete}
use Rattle.message.specs.Frames.{GroupView, DataView, View, Contents, group_bytes, groups_bytes, part_bytes, parts_bytes, Entry, Entries, Groups, Parts, Holds}
use Rattle.message.proofs.Blocks.{block_length}
use Rattle.message.proofs.Passing.{entries_long}
use Rattle.message.proofs.Making.{AllSized}
use Rattle.message.proofs.Views.{SoundView}
use Rattle.calls.specs.Changes.{blank_meaning, blank_entry, blank_contents, FieldSpot, GroupSpot, PartSpot, field_in, group_in, part_in, field_of_entry, group_spot, part_spot, field_spot, with_meaning, with_element, with_entries, with_part, one_more, one_less, with_field, with_group, with_data, needed, fits, with_room, pattern_of_value, has_room_for_entry, set_field, clear_field, append_entry, drop_entry, write_data, fields_there, entries_there, groups_there, closing_verdict}
use Rattle.calls.specs.Calls.{Fill, set, clear, append, remove, write, SayableFill, filled}
use Rattle.calls.proofs.Outcomes.{Gives, gives_bind, gives_weaker, gives_rule, not_found, no_such_value, unknown_type, no_room, full, required_absent, too_long}

-- ---- blanks

-- the blank of each field has a pattern
abbrev pub BlankSlots : List Slot → Type 0
BlankSlots fs = AllByRecursion (λ f. HasPattern f.kind (blank_meaning f.kind)) fs

pub record BlankView (v : View) : Type 0 where
  pub root : BlankSlots v.root.slots
  pub groups : AllByRecursion (λ g. BlankSlots g.block.slots) v.groups

blank_filled : (fs : List Slot) → BlankSlots fs → Filled fs (map (λ f. blank_meaning f.kind) fs)
blank_filled [] h = tt
blank_filled (f ∷ fs) h = (h.0, blank_filled fs h.1)

blank_groups : (gs : List GroupView) → Groups false gs (map (λ _. []) gs)
blank_groups [] = tt
blank_groups (g ∷ gs) = (omega arith, tt, blank_groups gs)

blank_parts : (ds : List DataView) → Parts ds (map (λ _. []) ds)
blank_parts [] = tt
blank_parts (d ∷ ds) = (omega arith, tt, blank_parts ds)

pub blank_holds : (v : View) → BlankView v → Holds false v (blank_contents v)
blank_holds v b = record { root = (blank_filled v.root.slots b.root, λ z. absurd z); groups = blank_groups v.groups; parts = blank_parts v.parts }

-- ---- a value

pattern_there : (o : Option (List ℕ)) → Gives (λ _. Unit {0}) (or_refused reason.NoSuchValue o)
pattern_there None = no_such_value
pattern_there (Some bs) = tt

pattern_answers : (k : Option Kind) (m : Meaning) → Gives (λ _. Unit {0}) (pattern_of k m)
pattern_answers None m = unknown_type
pattern_answers (Some k) m = pattern_there (k.pattern m)

value_by : (b : Bool) (r : Result (List ℕ) Refusal) (place tag : ℕ) → Gives (λ _. Unit {0}) r → Gives (λ _. r ≡ Ok (given_or r [])) (located_as (cond b (Err (plain reason.NoSuchValue)) r) place tag)
value_by true r place tag h = no_such_value
value_by false (Ok bs) place tag h = refl
value_by false (Err e) place tag h = h

-- a value that is not refused has a pattern
value_has_pattern : (k : Option Kind) (m : Meaning) (place tag : ℕ) → Gives (λ _. HasPattern k m) (located_as (pattern_of_value k m) place tag)
value_has_pattern k m place tag = value_by (is_absent m) (pattern_of k m) place tag (pattern_answers k m)

-- ---- a field of a block

-- a meaning with a pattern may stand at a field that is found, and the blank has one
pub record Takes (tag : ℕ) (fs : List Slot) (f : FieldSpot) : Type 0 where
  pub blank : HasPattern f.slot.kind (blank_meaning f.slot.kind)
  pub put : (m : Meaning) → HasPattern f.slot.kind m → (ms : List Meaning) → Filled fs ms → Filled fs (with_meaning tag m fs ms)

put_here : (tag : ℕ) (f : Slot) (fs : List Slot) → eqb f.tag tag ≡ true → (m : Meaning) → HasPattern f.kind m → (ms : List Meaning) → Filled (f ∷ fs) ms → Filled (f ∷ fs) (with_meaning tag m (f ∷ fs) ms)
put_here tag f fs e m p [] k = absurd k
put_here tag f fs e m p (x ∷ xs) k = rw e (p, k.1)

put_behind : (tag : ℕ) (f : Slot) (fs : List Slot) → eqb f.tag tag ≡ false → (m : Meaning) → ((ms : List Meaning) → Filled fs ms → Filled fs (with_meaning tag m fs ms)) → (ms : List Meaning) → Filled (f ∷ fs) ms → Filled (f ∷ fs) (with_meaning tag m (f ∷ fs) ms)
put_behind tag f fs e m h [] k = absurd k
put_behind tag f fs e m h (x ∷ xs) k = rw e (k.0, h xs k.1)

field_takes : (base tag : ℕ) (fs : List Slot) → BlankSlots fs → Gives (Takes tag fs) (field_in base fs tag)
field_takes base tag [] b = not_found
field_takes base tag (f ∷ fs) b =
    ⊎_elim
    (λ a. rw a.0 (record { blank = b.0; put = put_here tag f fs a.0 }))
    (λ a. rw a.0 (gives_weaker (Takes tag fs) (Takes tag (f ∷ fs)) (field_in base fs tag) (field_takes base tag fs b.1) (λ g h. record { blank = h.blank; put = λ m p. put_behind tag f fs a.0 m (h.put m p) })))
    (eqb_tells f.tag tag)

-- ---- entries

entries_with : (b : BlockView) (h : List Meaning → List Meaning) → ((ms : List Meaning) → Filled b.slots ms → Filled b.slots (h ms)) → (i : ℕ) (es : List (List Meaning)) → Entries false b es → Entries false b (with_element h i es)
entries_with b h r i [] k = tt
entries_with b h r zero (ms ∷ es) k = ((r ms k.0.0, λ z. absurd z), k.1)
entries_with b h r (suc i) (ms ∷ es) k = (k.0, entries_with b h r i es k.1)

as_many : (h : List Meaning → List Meaning) (i : ℕ) (es : List (List Meaning)) → length (with_element h i es) ≡ length es
as_many h i [] = refl
as_many h zero (ms ∷ es) = refl
as_many h (suc i) (ms ∷ es) = ap suc (as_many h i es)

entries_push : (b : BlockView) (es : List (List Meaning)) (ms : List Meaning) → Entries false b es → Entry false b ms → Entries false b (es ++ (ms ∷ []))
entries_push b [] ms k e = (e, tt)
entries_push b (x ∷ es) ms k e = (k.0, entries_push b es ms k.1 e)

entries_first : (b : BlockView) (n : ℕ) (es : List (List Meaning)) → Entries false b es → Entries false b (take n es) × (length (take n es) ≤ length es)
entries_first b zero es k = (tt, omega arith)
entries_first b (suc n) [] k = (tt, omega arith)
entries_first b (suc n) (x ∷ es) k = let r = entries_first b n es k.1 in let l = r.1 in ((k.0, r.0), omega arith)

-- ---- groups

-- how many bytes groups have
abbrev pub groups_size : List GroupView → List (List (List Meaning)) → ℕ
groups_size [] ess = 0
groups_size (g ∷ gs) [] = 0
groups_size (g ∷ gs) (es ∷ ess) = 3 + length es * g.block.size + groups_size gs ess

groups_long : (gs : List GroupView) (ess : List (List (List Meaning))) → AllSized gs → Groups false gs ess → length (groups_bytes gs ess) ≡ groups_size gs ess
groups_long [] ess s k = refl
groups_long (g ∷ gs) [] s k = refl
groups_long (g ∷ gs) (es ∷ ess) s k =
    let e = entries_long false g.block es s.0 k.1 in
    let r = groups_long gs ess s.1 k.2 in
    rw length-append (omega arith)

-- a group that is found: what it holds, and what may stand in its place
pub record Changes (tag : ℕ) (gs : List GroupView) (ess : List (List (List Meaning))) (g : GroupSpot) : Type 0 where
  pub few : length g.entries ≤ 254
  pub right : Entries false g.group.block g.entries
  pub blank : BlankSlots g.group.block.slots
  pub put : (h : GroupView → List (List Meaning) → List (List Meaning)) → length (h g.group g.entries) ≤ 254 → Entries false g.group.block (h g.group g.entries) → Groups false gs (with_entries h tag gs ess)
  pub less : (h : GroupView → List (List Meaning) → List (List Meaning)) → length (h g.group g.entries) ≤ length g.entries → groups_size gs (with_entries h tag gs ess) ≤ groups_size gs ess

group_changes : (p tag : ℕ) (gs : List GroupView) (ess : List (List (List Meaning))) → AllByRecursion (λ g. BlankSlots g.block.slots) gs → Groups false gs ess → Gives (Changes tag gs ess) (group_in p gs ess tag)
group_changes p tag [] ess b k = not_found
group_changes p tag (g ∷ gs) [] b k = not_found
group_changes p tag (g ∷ gs) (es ∷ ess) b k =
    ⊎_elim
    (λ a. rw a.0 (record {
      few = k.0;
      right = k.1;
      blank = b.0;
      put = λ h n e. rw a.0 (n, e, k.2);
      less = λ h n. rw a.0 (let q = mul-le-mul_right g.block.size n in omega arith);
    }))
    (λ a. rw a.0 (gives_weaker (Changes tag gs ess) (Changes tag (g ∷ gs) (es ∷ ess)) (group_in (p + length (group_bytes g es)) gs ess tag) (group_changes (p + length (group_bytes g es)) tag gs ess b.1 k.2) (λ x c. record {
      few = c.few;
      right = c.right;
      blank = c.blank;
      put = λ h n e. rw a.0 (k.0, k.1, c.put h n e);
      less = λ h n. rw a.0 (let q = c.less h n in omega arith);
    })))
    (eqb_tells g.tag tag)

-- ---- data

-- bytes that are not too long may stand in place of a data that is found
abbrev pub TakesBytes : ℕ → List ℕ → List DataView → List (List ℕ) → PartSpot → Type 0
TakesBytes tag x ds xs d = length x ≤ d.part.longest → Parts ds (with_part tag x ds xs)

part_takes : (p tag : ℕ) (x : List ℕ) → Bytes x → (ds : List DataView) (xs : List (List ℕ)) → Parts ds xs → Gives (TakesBytes tag x ds xs) (part_in p ds xs tag)
part_takes p tag x y [] xs k = not_found
part_takes p tag x y (d ∷ ds) [] k = not_found
part_takes p tag x y (d ∷ ds) (z ∷ zs) k =
    ⊎_elim
    (λ a. rw a.0 (λ l. rw a.0 (l, y, k.2)))
    (λ a. rw a.0 (gives_weaker (TakesBytes tag x ds zs) (TakesBytes tag x (d ∷ ds) (z ∷ zs)) (part_in (p + length (part_bytes d z)) ds zs tag) (part_takes (p + length (part_bytes d z)) tag x y ds zs k.2) (λ f h l. rw a.0 (k.0, k.1, h l))))
    (eqb_tells d.tag tag)

-- ---- the calls that fill in a form

module _ (room : ℕ) (v : View) (s : SoundView v) (b : BlankView v) where
  -- what an open form may hold: its frame has room
  pub record Roomy (c : Contents) : Type 0 where
    pub right : Holds false v c
    pub fits : needed v c ≤ min room 16384

  needs : (c : Contents) → Holds false v c → needed v c ≡ 12 + (v.root.size + (groups_size v.groups c.groups + length (parts_bytes v.parts c.parts)))
  needs c h =
      let r = block_length v.root c.root s.root h.root.0 in
      let g = groups_long v.groups c.groups s.groups h.groups in
      rw (length-append, length-append) (omega arith)

  roomed : (c : Contents) → Holds false v c → Gives Roomy (with_room room v c)
  roomed c h = gives_rule Roomy (fits room v c) reason.NoRoom (needed v c) 0 (Ok c) no_room (λ e. record { right = h; fits = leb-true _ _ e })

  module _ (c : Contents) (r : Roomy c) where
    with_root : (ms : List Meaning) → Filled v.root.slots ms → Roomy (record { root = ms; groups = c.groups; parts = c.parts })
    with_root ms k =
        let c' : Contents = record { root = ms; groups = c.groups; parts = c.parts } in
        let h : Holds false v c' = record { root = (k, λ z. absurd z); groups = r.right.groups; parts = r.right.parts } in
        let e = needs c r.right in
        let e' = needs c' h in
        let f = r.fits in
        record { right = h; fits = omega arith }

    -- other entries in a group that is found
    holds_group : (tag : ℕ) (g : GroupSpot) → Changes tag v.groups c.groups g → (h : GroupView → List (List Meaning) → List (List Meaning)) → length (h g.group g.entries) ≤ 254 → Entries false g.group.block (h g.group g.entries) → Holds false v (with_group v c h tag)
    holds_group tag g x h n e = record { root = r.right.root; groups = x.put h n e; parts = r.right.parts }

    -- no more entries than before have room
    less_group : (tag : ℕ) (g : GroupSpot) → Changes tag v.groups c.groups g → (h : GroupView → List (List Meaning) → List (List Meaning)) → length (h g.group g.entries) ≤ length g.entries → Entries false g.group.block (h g.group g.entries) → Roomy (with_group v c h tag)
    less_group tag g x h n e =
        let few = x.few in
        let k = holds_group tag g x h (omega arith) e in
        let l = x.less h n in
        let i = needs c r.right in
        let i' = needs (with_group v c h tag) k in
        let f = r.fits in
        record { right = k; fits = omega arith }

    group_found : (tag : ℕ) → Gives (Changes tag v.groups c.groups) (group_spot v c tag)
    group_found tag = group_changes (12 + v.root.size) tag v.groups c.groups b.groups r.right.groups

    -- a field that is found: its blank, or another meaning with a pattern, may stand there
    pub record FieldTakes (group entry tag : ℕ) (f : FieldSpot) : Type 0 where
      pub blank : HasPattern f.slot.kind (blank_meaning f.slot.kind)
      pub put : (m : Meaning) → HasPattern f.slot.kind m → Roomy (with_field v c group entry tag m)

    -- the entry with a meaning put in
    abbrev in_entry : ℕ → ℕ → Meaning → GroupView → List (List Meaning) → List (List Meaning)
    in_entry entry tag m g es = with_element (with_meaning tag m g.block.slots) entry es

    root_field : (group entry tag : ℕ) → eqb group 0 ≡ true → Gives (FieldTakes group entry tag) (field_in 12 v.root.slots tag)
    root_field group entry tag e =
        gives_weaker (Takes tag v.root.slots) (FieldTakes group entry tag) (field_in 12 v.root.slots tag) (field_takes 12 tag v.root.slots b.root)
        (λ f h. record { blank = h.blank; put = λ m p. rw e (with_root (with_meaning tag m v.root.slots c.root) (h.put m p c.root r.right.root.0)) })

    entry_field : (group entry tag : ℕ) → eqb group 0 ≡ false → (g : GroupSpot) → Changes group v.groups c.groups g → Gives (FieldTakes group entry tag) (field_of_entry group entry tag g)
    entry_field group entry tag e g x =
        ⊎_elim
        (λ a. rw a (gives_weaker (Takes tag g.group.block.slots) (FieldTakes group entry tag) (field_in (g.place + 3 + entry * g.group.block.size) g.group.block.slots tag)
        (field_takes (g.place + 3 + entry * g.group.block.size) tag g.group.block.slots x.blank)
        (λ f h. record {
          blank = h.blank;
          put = λ m p. rw e (
              let n = as_many (with_meaning tag m g.group.block.slots) entry g.entries in
              less_group group g x (in_entry entry tag m) (omega arith) (entries_with g.group.block (with_meaning tag m g.group.block.slots) (h.put m p) entry g.entries x.right));
        })))
        (λ a. rw a not_found)
        (cases_Bool (ltb entry (length g.entries)))

    field_found : (group entry tag : ℕ) → Gives (FieldTakes group entry tag) (field_spot v c group entry tag)
    field_found group entry tag =
        ⊎_elim
        (λ a. let root = root_field group entry tag a.0 in ⊎_elim (λ z. rw (a.0, z.0) root) (λ z. rw (a.0, z.0) not_found) (eqb_tells entry 0))
        (λ a. let all = gives_bind (Changes group v.groups c.groups) (FieldTakes group entry tag) (group_spot v c group) (field_of_entry group entry tag) (group_found group) (entry_field group entry tag a.0) in rw a.0 all)
        (eqb_tells group 0)

    set_kept : (group entry tag : ℕ) (m : Meaning) → Gives Roomy (set_field room v c group entry tag m)
    set_kept group entry tag m =
        gives_bind (FieldTakes group entry tag) Roomy (field_spot v c group entry tag) (λ f. bind (located_as (pattern_of_value f.slot.kind m) f.place tag) (λ _. Ok (with_field v c group entry tag m))) (field_found group entry tag)
        (λ f h. gives_bind (λ _. HasPattern f.slot.kind m) Roomy (located_as (pattern_of_value f.slot.kind m) f.place tag) (λ _. Ok (with_field v c group entry tag m)) (value_has_pattern f.slot.kind m f.place tag) (λ _ p. h.put m p))

    clear_kept : (group entry tag : ℕ) → Gives Roomy (clear_field room v c group entry tag)
    clear_kept group entry tag =
        gives_bind (FieldTakes group entry tag) Roomy (field_spot v c group entry tag) (λ f. Ok (with_field v c group entry tag (blank_meaning f.slot.kind))) (field_found group entry tag)
        (λ f h. h.put (blank_meaning f.slot.kind) h.blank)

    append_kept : (group : ℕ) → Gives Roomy (append_entry room v c group)
    append_kept group =
        gives_bind (Changes group v.groups c.groups) Roomy (group_spot v c group) _ (group_found group)
        (λ g x. gives_rule Roomy (has_room_for_entry g.entries) reason.Full (g.place + 2) group (with_room room v (with_group v c one_more group)) full
        (λ e. let l = ltb-true (length g.entries) 254 e in
        roomed (with_group v c one_more group) (holds_group group g x one_more (rw length-append (omega arith)) (entries_push g.group.block g.entries (blank_entry g.group.block) x.right (blank_filled g.group.block.slots x.blank, λ z. absurd z)))))

    drop_kept : (group : ℕ) → Gives Roomy (drop_entry room v c group)
    drop_kept group =
        gives_bind (Changes group v.groups c.groups) Roomy (group_spot v c group) _ (group_found group)
        (λ g x. gives_rule Roomy (ltb 0 (length g.entries)) reason.NotFound 0 group (Ok (with_group v c one_less group)) not_found
        (λ _. let k = entries_first g.group.block (length g.entries - 1) g.entries x.right in less_group group g x one_less k.1 k.0))

    write_kept : (tag : ℕ) (x : List ℕ) → Bytes x → Gives Roomy (write_data room v c tag x)
    write_kept tag x y =
        gives_bind (TakesBytes tag x v.parts c.parts) Roomy (part_spot v c tag) _ (part_takes (12 + v.root.size + length (groups_bytes v.groups c.groups)) tag x y v.parts c.parts r.right.parts)
        (λ d h. gives_rule Roomy (leb (length x) d.part.longest) reason.Full d.place tag (with_room room v (with_data v c tag x)) full
        (λ e. roomed (with_data v c tag x) (record { root = r.right.root; groups = r.right.groups; parts = h (leb-true _ _ e) })))

    pub fill_kept : (k : Fill) → SayableFill k → Gives Roomy (filled room v c k)
    fill_kept (set group entry tag m) y = set_kept group entry tag m
    fill_kept (clear group entry tag) y = clear_kept group entry tag
    fill_kept (append group) y = append_kept group
    fill_kept (remove group) y = drop_kept group
    fill_kept (write tag x) y = write_kept tag x y.1

  pub blank_kept : Gives Roomy (with_room room v (blank_contents v))
  blank_kept = roomed (blank_contents v) (blank_holds v b)

-- ---- closing and reopening

-- a verdict and then another
then_gives : (P Q : Type 0) (v w : Verdict) → Gives (λ _. P) v → (P → Gives (λ _. Q) w) → Gives (λ _. Q) (v then w)
then_gives P Q v w g h = gives_bind (λ _. P) (λ _. Q) v (λ _. w) g (λ _ p. h p)

fields_complete : (base : ℕ) (fs : List Slot) (ms : List Meaning) → Gives (λ _. Complete fs ms) (fields_there base fs ms)
fields_complete base [] ms = tt
fields_complete base (f ∷ fs) [] = tt
fields_complete base (f ∷ fs) (m ∷ ms) =
    gives_rule (λ _. Complete (f ∷ fs) (m ∷ ms)) (present f.required m) reason.RequiredAbsent (base + f.offset) f.tag (fields_there base fs ms) required_absent
    (λ e. gives_weaker (λ _. Complete fs ms) (λ _. Complete (f ∷ fs) (m ∷ ms)) (fields_there base fs ms) (fields_complete base fs ms) (λ _ k. (e, k)))

entries_complete : (p : ℕ) (b : BlockView) (es : List (List Meaning)) → Entries false b es → Gives (λ _. Entries true b es) (entries_there p b es)
entries_complete p b [] k = tt
entries_complete p b (ms ∷ es) k =
    then_gives (Complete b.slots ms) (Entries true b (ms ∷ es)) (fields_there p b.slots ms) (entries_there (p + b.size) b es) (fields_complete p b.slots ms)
    (λ x. gives_weaker (λ _. Entries true b es) (λ _. Entries true b (ms ∷ es)) (entries_there (p + b.size) b es) (entries_complete (p + b.size) b es k.1) (λ _ y. ((k.0.0, λ _. x), y)))

groups_complete : (p : ℕ) (gs : List GroupView) (ess : List (List (List Meaning))) → Groups false gs ess → Gives (λ _. Groups true gs ess) (groups_there p gs ess)
groups_complete p [] [] k = tt
groups_complete p [] (es ∷ ess) k = absurd k
groups_complete p (g ∷ gs) [] k = absurd k
groups_complete p (g ∷ gs) (es ∷ ess) k =
    let q = p + length (group_bytes g es) in
    then_gives (Entries true g.block es) (Groups true (g ∷ gs) (es ∷ ess)) (entries_there (p + 3) g.block es) (groups_there q gs ess) (entries_complete (p + 3) g.block es k.1)
    (λ x. gives_weaker (λ _. Groups true gs ess) (λ _. Groups true (g ∷ gs) (es ∷ ess)) (groups_there q gs ess) (groups_complete q gs ess k.2) (λ _ y. (k.0, x, y)))

-- what may be closed has its required fields
pub closing_complete : (v : View) (c : Contents) → Holds false v c → Gives (λ _. Holds true v c) (closing_verdict v c)
closing_complete v c h =
    then_gives (Complete v.root.slots c.root) (Holds true v c) (fields_there 12 v.root.slots c.root) _ (fields_complete 12 v.root.slots c.root)
    (λ x. then_gives (Groups true v.groups c.groups) (Holds true v c) (groups_there (12 + v.root.size) v.groups c.groups) _ (groups_complete (12 + v.root.size) v.groups c.groups h.groups)
    (λ y. let all : Holds true v c = record { root = (h.root.0, λ _. x); groups = y; parts = h.parts } in by_length (leb (needed v c) 16384) all))
  where
    by_length : (b : Bool) → Holds true v c → Gives (λ _. Holds true v c) (rule b reason.TooLong 0 0)
    by_length true all = all
    by_length false all = too_long

entries_open : (b : BlockView) (es : List (List Meaning)) → Entries true b es → Entries false b es
entries_open b [] k = tt
entries_open b (ms ∷ es) k = ((k.0.0, λ z. absurd z), entries_open b es k.1)

groups_open : (gs : List GroupView) (ess : List (List (List Meaning))) → Groups true gs ess → Groups false gs ess
groups_open [] [] k = tt
groups_open [] (es ∷ ess) k = k
groups_open (g ∷ gs) [] k = k
groups_open (g ∷ gs) (es ∷ ess) k = (k.0, entries_open g.block es k.1, groups_open gs ess k.2)

-- what is closed may be open
pub holds_open : (v : View) (c : Contents) → Holds true v c → Holds false v c
holds_open v c h = record { root = (h.root.0, λ z. absurd z); groups = groups_open v.groups c.groups h.groups; parts = h.parts }
