-- What a change of the contents does to their bytes: those of the field, group or data that is found are others, and the rest stands.
use Rattle.std.proofs.Common.{◌≡◌, ℕ, zero, suc, ◌+◌, ◌-◌, ◌*◌, ◌<◌, ◌≤◌, true, false, eqb, ltb, List, [], ◌∷◌, ◌++◌, map, length, take, Some, Ok, Err, Result, sym, refl, ap, ◌∙◌, subst, ⊎_elim, append_assoc, append-nil, suc-mul, zero-mul, arith, length-append}
use Rattle.std.specs.List.{AllByRecursion}
use Rattle.std.proofs.lemmas.Bool.{ltb-true, cases_Bool}
use Rattle.std.proofs.lemmas.Bool.Decides.{eqb_tells}
use Rattle.wire.specs.declared.refusal.Reason.TheVariants as reason
use Rattle.wire.specs.declared.refusal.Refusal.{Refusal}
use Rattle.wire.specs.Bytes.{Bytes}
use Rattle.wire.specs.Numbers.{le_bytes}
use Rattle.wire.specs.Refusals.{bind}
use Rattle.wire.proofs.Values.{length_le_bytes}
use Rattle.types.specs.Meanings.{Meaning}
use Rattle.types.specs.Kinds.{Kind, Lawful, Known, AllLawful}
use Rattle.types.specs.Answers.{or_refused}
use Rattle.schema.specs.Structure.{Field, Group, Template}
use Rattle.schema.specs.Geometry.{width_or_0}
use Rattle.schema.specs.WellFormed.{GoodField, GoodGroup, GoodTemplate}
use Rattle.message.specs.Blocks.{Slot, BlockView, slot_end, given_or, written, zeros, bytes_from, block_bytes, HasPattern, Filled}
use Rattle.message.specs.Frames.{GroupView, DataView, View, Contents, entries_bytes, group_bytes, groups_bytes, part_bytes, parts_bytes, contents_bytes, Entries, Groups, Parts, Holds}
use Rattle.message.specs.Messages.{slot_of, group_view, view_of}
use Rattle.message.proofs.Patterns.{SoundKind}
use Rattle.message.proofs.Blocks.{Fits, Sized, zeros_length, block_length}
use Rattle.message.proofs.Passing.{RoomFor, entries_long}
use Rattle.message.proofs.Making.{AllSized}
use Rattle.message.proofs.Views.{AllRoom, SoundView}
use Rattle.calls.specs.Changes.{blank_meaning, blank_entry, FieldSpot, GroupSpot, PartSpot, field_in, group_in, part_in, field_of_entry, group_spot, part_spot, field_spot, with_meaning, with_element, with_entries, with_part, one_more, one_less, with_field, with_group, with_data}

-- ---- bytes of which some are others

-- `whole` begins at place `from`; with `new` in place of the bytes `old` that lie at `place` it is `changed`
pub record SplitFrom (from : ℕ) (whole changed : List ℕ) (place : ℕ) (old new : List ℕ) : Type 0 where
  pub before : List ℕ
  pub behind : List ℕ
  pub was : whole ≡ before ++ (old ++ behind)
  pub is : changed ≡ before ++ (new ++ behind)
  pub at : from + length before ≡ place

-- the same of what follows the header of a frame
abbrev pub Split : List ℕ → List ℕ → ℕ → List ℕ → List ℕ → Type 0
Split whole changed place old new = SplitFrom 12 whole changed place old new

-- a front that is changed
pub front_splits : (from : ℕ) (old new rest : List ℕ) → SplitFrom from (old ++ rest) (new ++ rest) from old new
front_splits from old new rest = record { before = []; behind = rest; was = refl; is = refl; at = omega arith }

module _ (from to : ℕ) (whole changed : List ℕ) (place : ℕ) (old new : List ℕ) where
  -- a front that stands
  pub splits_behind : (a : List ℕ) → from + length a ≡ to → SplitFrom to whole changed place old new → SplitFrom from (a ++ whole) (a ++ changed) place old new
  splits_behind a e s =
      let n = s.at in
      record {
        before = a ++ s.before;
        behind = s.behind;
        was = ap (λ x. a ++ x) s.was ∙ sym (append_assoc a s.before (old ++ s.behind));
        is = ap (λ x. a ++ x) s.is ∙ sym (append_assoc a s.before (new ++ s.behind));
        at = rw length-append (omega arith);
      }

module _ (from : ℕ) (whole changed : List ℕ) (place : ℕ) (old new : List ℕ) (s : SplitFrom from whole changed place old new) where
  -- an end that stands
  pub splits_before : (z : List ℕ) → SplitFrom from (whole ++ z) (changed ++ z) place old new
  splits_before z = record {
    before = s.before;
    behind = s.behind ++ z;
    was = ap (λ x. x ++ z) s.was ∙ append_assoc s.before (old ++ s.behind) z ∙ ap (λ x. s.before ++ x) (append_assoc old s.behind z);
    is = ap (λ x. x ++ z) s.is ∙ append_assoc s.before (new ++ s.behind) z ∙ ap (λ x. s.before ++ x) (append_assoc new s.behind z);
    at = s.at;
  }

  -- some of the bytes that are changed
  pub splits_within : (there : ℕ) (less more : List ℕ) → SplitFrom place old new there less more → SplitFrom from whole changed there less more
  splits_within there less more r =
      let n = s.at in
      let m = r.at in
      record {
        before = s.before ++ r.before;
        behind = r.behind ++ s.behind;
        was = s.was ∙ ap (λ x. s.before ++ (x ++ s.behind)) r.was ∙ put s.before r.before less r.behind s.behind;
        is = s.is ∙ ap (λ x. s.before ++ (x ++ s.behind)) r.is ∙ put s.before r.before more r.behind s.behind;
        at = rw length-append (omega arith);
      }
    where
      put : (a b x y z : List ℕ) → a ++ ((b ++ (x ++ y)) ++ z) ≡ (a ++ b) ++ (x ++ (y ++ z))
      put a b x y z = rw (append_assoc a b (x ++ (y ++ z)), append_assoc b (x ++ y) z, append_assoc x y z) refl

-- ---- what is found

-- P of what an answer gives, if it gives something
abbrev pub IfFound : {X : Type 0} → (X → Type 0) → Result X Refusal → Type 0
IfFound P (Ok x) = P x
IfFound P (Err e) = Unit {0}

module _ {X : Type 0} where
  pub found : (P : X → Type 0) (r : Result X Refusal) (x : X) → IfFound P r → r ≡ Ok x → P x
  found P r x h e = subst (IfFound P) e h

  pub found_weaker : (P Q : X → Type 0) (r : Result X Refusal) → IfFound P r → ((x : X) → P x → Q x) → IfFound Q r
  found_weaker P Q (Ok x) g h = h x g
  found_weaker P Q (Err e) g h = tt

pub found_bind : {X Y : Type 0} (P : X → Type 0) (Q : Y → Type 0) (r : Result X Refusal) (f : X → Result Y Refusal) → IfFound P r → ((x : X) → P x → IfFound Q (f x)) → IfFound Q (bind r f)
found_bind P Q (Ok x) f g h = h x g
found_bind P Q (Err e) f g h = tt

-- ---- a field of a block

-- a field that is found in a block, which begins at `base` and is looked at from `at` on: what it means, and what another meaning does to the bytes
pub record FieldIn (base at tag : ℕ) (fs : List Slot) (size : ℕ) (ms : List Meaning) (f : FieldSpot) : Type 0 where
  pub sound : SoundKind f.slot.kind
  pub tagged : f.slot.tag ≡ tag
  pub old : Meaning
  pub has : HasPattern f.slot.kind old
  pub splits : (m : Meaning) → SplitFrom (base + at) (bytes_from at fs size ms) (bytes_from at fs size (with_meaning tag m fs ms)) f.place (written f.slot.kind old) (written f.slot.kind m)

pub field_found : (base at tag : ℕ) (fs : List Slot) (size : ℕ) (ms : List Meaning) → Fits at fs size → Filled fs ms → IfFound (FieldIn base at tag fs size ms) (field_in base fs tag)
field_found base at tag [] size ms h k = tt
field_found base at tag (f ∷ fs) size [] h k = absurd k
field_found base at tag (f ∷ fs) size (x ∷ xs) h k =
    let gap = zeros (f.offset - at) in
    let z = zeros_length (f.offset - at) in
    let lo = h.0 in
    let w = h.1.long x k.0 in
    ⊎_elim
    (λ a. rw a.0 (record {
      sound = h.1;
      tagged = a.1;
      old = x;
      has = k.0;
      splits = λ m. rw a.0 (splits_behind (base + at) (base + f.offset) _ _ (base + f.offset) (written f.kind x) (written f.kind m) gap (omega arith)
          (front_splits (base + f.offset) (written f.kind x) (written f.kind m) (bytes_from (slot_end f) fs size xs)));
    }))
    (λ a. rw a.0 (found_weaker (FieldIn base (slot_end f) tag fs size xs) (FieldIn base at tag (f ∷ fs) size (x ∷ xs)) (field_in base fs tag) (field_found base (slot_end f) tag fs size xs h.2 k.1)
    (λ g r. record {
      sound = r.sound;
      tagged = r.tagged;
      old = r.old;
      has = r.has;
      splits = λ m. rw a.0 (splits_behind (base + at) (base + f.offset) _ _ g.place (written g.slot.kind r.old) (written g.slot.kind m) gap (omega arith)
          (splits_behind (base + f.offset) (base + slot_end f) _ _ g.place (written g.slot.kind r.old) (written g.slot.kind m) (written f.kind x) (omega arith) (r.splits m)));
    })))
    (eqb_tells f.tag tag)

-- ---- an entry of a group

pub as_many : (h : List Meaning → List Meaning) (i : ℕ) (es : List (List Meaning)) → length (with_element h i es) ≡ length es
as_many h i [] = refl
as_many h zero (ms ∷ es) = refl
as_many h (suc i) (ms ∷ es) = ap suc (as_many h i es)

-- the entry of a number, of entries of which the first begins at `base`: what it holds, and what another entry in its place does to the bytes
pub record EntryIn (base : ℕ) (b : BlockView) (es : List (List Meaning)) (i : ℕ) : Type 0 where
  pub entry : List Meaning
  pub right : Filled b.slots entry
  pub splits : (h : List Meaning → List Meaning) → SplitFrom base (entries_bytes b es) (entries_bytes b (with_element h i es)) (base + i * b.size) (block_bytes b entry) (block_bytes b (h entry))

pub entry_found : (base : ℕ) (b : BlockView) (es : List (List Meaning)) (i : ℕ) → Sized b → Entries false b es → i < length es → EntryIn base b es i
entry_found base b [] i s k l = absurd (omega arith)
entry_found base b (ms ∷ es) zero s k l =
    let here : base + 0 * b.size ≡ base = rw zero-mul (omega arith) in
    record {
      entry = ms;
      right = k.0.0;
      splits = λ h. rw here (front_splits base (block_bytes b ms) (block_bytes b (h ms)) (entries_bytes b es));
    }
entry_found base b (ms ∷ es) (suc i) s k l =
    let r = entry_found (base + b.size) b es i s k.1 (omega arith) in
    let n = block_length b ms s k.0.0 in
    let there : base + suc i * b.size ≡ (base + b.size) + i * b.size = rw suc-mul (omega arith) in
    record {
      entry = r.entry;
      right = r.right;
      splits = λ h. rw there (splits_behind base (base + b.size) _ _ _ (block_bytes b r.entry) (block_bytes b (h r.entry)) (block_bytes b ms) (omega arith) (r.splits h));
    }

-- ---- a group

pub group_long : (g : GroupView) (es : List (List Meaning)) → Sized g.block → Entries false g.block es → length (group_bytes g es) ≡ 3 + length es * g.block.size
group_long g es s k = let n = entries_long false g.block es s k in omega arith

-- a group that is found, of groups of which the first begins at `from`: what it holds, and what other entries do to the bytes
pub record GroupIn (from tag : ℕ) (gs : List GroupView) (ess : List (List (List Meaning))) (g : GroupSpot) : Type 0 where
  pub sized : Sized g.group.block
  pub right : Entries false g.group.block g.entries
  pub few : length g.entries ≤ 254
  pub tagged : g.group.tag ≡ tag
  pub splits : (h : GroupView → List (List Meaning) → List (List Meaning)) → SplitFrom from (groups_bytes gs ess) (groups_bytes gs (with_entries h tag gs ess)) g.place (group_bytes g.group g.entries) (group_bytes g.group (h g.group g.entries))

pub group_found : (from tag : ℕ) (gs : List GroupView) (ess : List (List (List Meaning))) → AllSized gs → Groups false gs ess → IfFound (GroupIn from tag gs ess) (group_in from gs ess tag)
group_found from tag [] ess s k = tt
group_found from tag (g ∷ gs) [] s k = tt
group_found from tag (g ∷ gs) (es ∷ ess) s k =
    ⊎_elim
    (λ a. rw a.0 (record {
      sized = s.0;
      right = k.1;
      few = k.0;
      tagged = a.1;
      splits = λ h. rw a.0 (front_splits from (group_bytes g es) (group_bytes g (h g es)) (groups_bytes gs ess));
    }))
    (λ a. rw a.0 (found_weaker (GroupIn (from + length (group_bytes g es)) tag gs ess) (GroupIn from tag (g ∷ gs) (es ∷ ess)) (group_in (from + length (group_bytes g es)) gs ess tag) (group_found (from + length (group_bytes g es)) tag gs ess s.1 k.2)
    (λ x r. record {
      sized = r.sized;
      right = r.right;
      few = r.few;
      tagged = r.tagged;
      splits = λ h. rw a.0 (splits_behind from (from + length (group_bytes g es)) _ _ x.place (group_bytes x.group x.entries) (group_bytes x.group (h x.group x.entries)) (group_bytes g es) refl (r.splits h));
    })))
    (eqb_tells g.tag tag)

-- ---- a data

pub part_bytes_long : (d : DataView) (x : List ℕ) → length (part_bytes d x) ≡ d.prefix + length x
part_bytes_long d x = rw (length-append, length_le_bytes) refl

-- a data that is found, of data of which the first begins at `from`: what it holds, and what other bytes do to the bytes
pub record PartIn (from tag : ℕ) (ds : List DataView) (xs : List (List ℕ)) (d : PartSpot) : Type 0 where
  pub room : RoomFor d.part
  pub few : length d.content ≤ d.part.longest
  pub right : Bytes d.content
  pub tagged : d.part.tag ≡ tag
  pub splits : (x : List ℕ) → SplitFrom from (parts_bytes ds xs) (parts_bytes ds (with_part tag x ds xs)) d.place (part_bytes d.part d.content) (part_bytes d.part x)

pub part_found : (from tag : ℕ) (ds : List DataView) (xs : List (List ℕ)) → AllRoom ds → Parts ds xs → IfFound (PartIn from tag ds xs) (part_in from ds xs tag)
part_found from tag [] xs s k = tt
part_found from tag (d ∷ ds) [] s k = tt
part_found from tag (d ∷ ds) (y ∷ ys) s k =
    ⊎_elim
    (λ a. rw a.0 (record {
      room = s.0;
      few = k.0;
      right = k.1;
      tagged = a.1;
      splits = λ x. rw a.0 (front_splits from (part_bytes d y) (part_bytes d x) (parts_bytes ds ys));
    }))
    (λ a. rw a.0 (found_weaker (PartIn (from + length (part_bytes d y)) tag ds ys) (PartIn from tag (d ∷ ds) (y ∷ ys)) (part_in (from + length (part_bytes d y)) ds ys tag) (part_found (from + length (part_bytes d y)) tag ds ys s.1 k.2)
    (λ p r. record {
      room = r.room;
      few = r.few;
      right = r.right;
      tagged = r.tagged;
      splits = λ x. rw a.0 (splits_behind from (from + length (part_bytes d y)) _ _ p.place (part_bytes p.part p.content) (part_bytes p.part x) (part_bytes d y) refl (r.splits x));
    })))
    (eqb_tells d.tag tag)

-- ---- contents

module _ (v : View) (c : Contents) where
  -- a group of the contents that is found: what it holds, and what other entries do to the bytes
  pub record GroupSplits (tag : ℕ) (g : GroupSpot) : Type 0 where
    pub sized : Sized g.group.block
    pub right : Entries false g.group.block g.entries
    pub few : length g.entries ≤ 254
    pub tagged : g.group.tag ≡ tag
    pub was_long : length (group_bytes g.group g.entries) ≡ 3 + length g.entries * g.group.block.size
    pub splits : (h : GroupView → List (List Meaning) → List (List Meaning)) → Split (contents_bytes v c) (contents_bytes v (with_group v c h tag)) g.place (group_bytes g.group g.entries) (group_bytes g.group (h g.group g.entries))

  -- a data of the contents that is found: what it holds, and what other bytes do to the bytes
  pub record PartSplits (tag : ℕ) (d : PartSpot) : Type 0 where
    pub room : RoomFor d.part
    pub few : length d.content ≤ d.part.longest
    pub right : Bytes d.content
    pub tagged : d.part.tag ≡ tag
    pub long : (x : List ℕ) → length (part_bytes d.part x) ≡ d.part.prefix + length x
    pub splits : (x : List ℕ) → Split (contents_bytes v c) (contents_bytes v (with_data v c tag x)) d.place (part_bytes d.part d.content) (part_bytes d.part x)

  -- a field of the contents that is found: what it means, and what another meaning does to the bytes
  pub record FieldSplits (group entry tag : ℕ) (f : FieldSpot) : Type 0 where
    pub sound : SoundKind f.slot.kind
    pub tagged : f.slot.tag ≡ tag
    pub old : Meaning
    pub has : HasPattern f.slot.kind old
    pub was_long : length (written f.slot.kind old) ≡ width_or_0 f.slot.kind
    pub is_long : (m : Meaning) → HasPattern f.slot.kind m → length (written f.slot.kind m) ≡ width_or_0 f.slot.kind
    pub splits : (m : Meaning) → Split (contents_bytes v c) (contents_bytes v (with_field v c group entry tag m)) f.place (written f.slot.kind old) (written f.slot.kind m)

  module _ (s : SoundView v) (k : Holds false v c) where
    root_long : length (block_bytes v.root c.root) ≡ v.root.size
    root_long = block_length v.root c.root s.root k.root.0

    group_if_found : (tag : ℕ) → IfFound (GroupSplits tag) (group_spot v c tag)
    group_if_found tag =
        let n = root_long in
        let rest = parts_bytes v.parts c.parts in
        found_weaker (GroupIn (12 + v.root.size) tag v.groups c.groups) (GroupSplits tag) (group_spot v c tag) (group_found (12 + v.root.size) tag v.groups c.groups s.groups k.groups)
        (λ g r. record {
          sized = r.sized;
          right = r.right;
          few = r.few;
          tagged = r.tagged;
          was_long = group_long g.group g.entries r.sized r.right;
          splits = λ h.
              let old = group_bytes g.group g.entries in
              let new = group_bytes g.group (h g.group g.entries) in
              splits_behind 12 (12 + v.root.size) _ _ g.place old new (block_bytes v.root c.root) (omega arith) (splits_before (12 + v.root.size) _ _ g.place old new (r.splits h) rest);
        })

    pub group_splits : (tag : ℕ) (g : GroupSpot) → group_spot v c tag ≡ Ok g → GroupSplits tag g
    group_splits tag g e = found (GroupSplits tag) (group_spot v c tag) g (group_if_found tag) e

    part_if_found : (tag : ℕ) → IfFound (PartSplits tag) (part_spot v c tag)
    part_if_found tag =
        let n = root_long in
        let groups = groups_bytes v.groups c.groups in
        let from = 12 + v.root.size + length groups in
        found_weaker (PartIn from tag v.parts c.parts) (PartSplits tag) (part_spot v c tag) (part_found from tag v.parts c.parts s.parts k.parts)
        (λ d r. record {
          room = r.room;
          few = r.few;
          right = r.right;
          tagged = r.tagged;
          long = part_bytes_long d.part;
          splits = λ x.
              let old = part_bytes d.part d.content in
              let new = part_bytes d.part x in
              splits_behind 12 (12 + v.root.size) _ _ d.place old new (block_bytes v.root c.root) (omega arith) (splits_behind (12 + v.root.size) from _ _ d.place old new groups refl (r.splits x));
        })

    pub part_splits : (tag : ℕ) (d : PartSpot) → part_spot v c tag ≡ Ok d → PartSplits tag d
    part_splits tag d e = found (PartSplits tag) (part_spot v c tag) d (part_if_found tag) e

    root_field : (group entry tag : ℕ) → eqb group 0 ≡ true → IfFound (FieldSplits group entry tag) (field_in 12 v.root.slots tag)
    root_field group entry tag e =
        found_weaker (FieldIn 12 0 tag v.root.slots v.root.size c.root) (FieldSplits group entry tag) (field_in 12 v.root.slots tag) (field_found 12 0 tag v.root.slots v.root.size c.root s.root.0 k.root.0)
        (λ f r. record {
          sound = r.sound;
          tagged = r.tagged;
          old = r.old;
          has = r.has;
          was_long = r.sound.long r.old r.has;
          is_long = r.sound.long;
          splits = λ m. rw e (splits_before 12 _ _ f.place (written f.slot.kind r.old) (written f.slot.kind m) (r.splits m) (groups_bytes v.groups c.groups ++ parts_bytes v.parts c.parts));
        })

    entry_field : (group entry tag : ℕ) → eqb group 0 ≡ false → (g : GroupSpot) → GroupSplits group g → entry < length g.entries → IfFound (FieldSplits group entry tag) (field_in (g.place + 3 + entry * g.group.block.size) g.group.block.slots tag)
    entry_field group entry tag e g x l =
        let b = g.group.block in
        let base = g.place + 3 + entry * b.size in
        let i = entry_found (g.place + 3) b g.entries entry x.sized x.right l in
        let head = le_bytes 2 b.size ++ (length g.entries ∷ []) in
        let here : base + 0 ≡ base = omega arith in
        found_weaker (FieldIn base 0 tag b.slots b.size i.entry) (FieldSplits group entry tag) (field_in base b.slots tag) (field_found base 0 tag b.slots b.size i.entry x.sized.0 i.right)
        (λ f r. record {
          sound = r.sound;
          tagged = r.tagged;
          old = r.old;
          has = r.has;
          was_long = r.sound.long r.old r.has;
          is_long = r.sound.long;
          splits = λ m.
              let put = with_meaning tag m b.slots in
              let was = written f.slot.kind r.old in
              let is = written f.slot.kind m in
              let one : SplitFrom base (block_bytes b i.entry) (block_bytes b (put i.entry)) f.place was is = subst (λ n. SplitFrom n (block_bytes b i.entry) (block_bytes b (put i.entry)) f.place was is) here (r.splits m) in
              let all : SplitFrom g.place (group_bytes g.group g.entries) (group_bytes g.group (with_element put entry g.entries)) base (block_bytes b i.entry) (block_bytes b (put i.entry)) =
              rw (as_many put entry g.entries) (splits_behind g.place (g.place + 3) _ _ base (block_bytes b i.entry) (block_bytes b (put i.entry)) head refl (i.splits put)) in
              rw e (splits_within 12 _ _ g.place _ _ (x.splits (λ g es. with_element (with_meaning tag m g.block.slots) entry es)) f.place was is (splits_within g.place _ _ base _ _ all f.place was is one));
        })

    field_if_found : (group entry tag : ℕ) → IfFound (FieldSplits group entry tag) (field_spot v c group entry tag)
    field_if_found group entry tag =
        ⊎_elim
        (λ a. let root = root_field group entry tag a.0 in ⊎_elim (λ z. rw (a.0, z.0) root) (λ z. rw (a.0, z.0) tt) (eqb_tells entry 0))
        (λ a. let all = found_bind (GroupSplits group) (FieldSplits group entry tag) (group_spot v c group) (field_of_entry group entry tag) (group_if_found group) (in_entry a.0) in rw a.0 all)
        (eqb_tells group 0)
      where
        in_entry : eqb group 0 ≡ false → (g : GroupSpot) → GroupSplits group g → IfFound (FieldSplits group entry tag) (field_of_entry group entry tag g)
        in_entry e g x = ⊎_elim (λ a. let l = ltb-true entry (length g.entries) a in let all = entry_field group entry tag e g x l in rw a all) (λ a. rw a tt) (cases_Bool (ltb entry (length g.entries)))

    pub field_splits : (group entry tag : ℕ) (f : FieldSpot) → field_spot v c group entry tag ≡ Ok f → FieldSplits group entry tag f
    field_splits group entry tag f e = found (FieldSplits group entry tag) (field_spot v c group entry tag) f (field_if_found group entry tag) e

-- ---- blanks

-- a field whose kind is known and lawful
pub record LawfulSlot (f : Slot) : Type 0 where
  pub kind : Kind
  pub is : f.kind ≡ Some kind
  pub lawful : Lawful kind

abbrev pub LawfulSlots : List Slot → Type 0
LawfulSlots fs = AllByRecursion LawfulSlot fs

-- the pattern of what the blank means is the blank
pub blank_written : (k : Kind) → Lawful k → written (Some k) k.blank_means ≡ k.blank
blank_written k l = ap (λ o. given_or (or_refused reason.NoSuchValue o) []) l.blank_is

pub blank_has_pattern : (k : Kind) → Lawful k → HasPattern (Some k) k.blank_means
blank_has_pattern k l = ap (or_refused reason.NoSuchValue) l.blank_is ∙ ap Ok (sym (blank_written k l))

-- the same at the kind of a field
pub slot_blank_has_pattern : (f : Slot) → LawfulSlot f → HasPattern f.kind (blank_meaning f.kind)
slot_blank_has_pattern f l = subst (λ o. HasPattern o (blank_meaning o)) (sym l.is) (blank_has_pattern l.kind l.lawful)

pub slot_blank_written : (f : Slot) (l : LawfulSlot f) → written f.kind (blank_meaning f.kind) ≡ l.kind.blank
slot_blank_written f l = subst (λ o. written o (blank_meaning o) ≡ l.kind.blank) (sym l.is) (blank_written l.kind l.lawful)

blanks_filled : (fs : List Slot) → LawfulSlots fs → Filled fs (map (λ f. blank_meaning f.kind) fs)
blanks_filled [] l = tt
blanks_filled (f ∷ fs) l = (slot_blank_has_pattern f l.0, blanks_filled fs l.1)

pub blank_filled : (b : BlockView) → LawfulSlots b.slots → Filled b.slots (blank_entry b)
blank_filled b l = blanks_filled b.slots l

pub blank_long : (b : BlockView) → Sized b → LawfulSlots b.slots → length (block_bytes b (blank_entry b)) ≡ b.size
blank_long b s l = block_length b (blank_entry b) s (blank_filled b l)

-- a template whose kinds are all known and lawful
pub record LawfulView (v : View) : Type 0 where
  pub root : LawfulSlots v.root.slots
  pub groups : AllByRecursion (λ g. LawfulSlots g.block.slots) v.groups

module _ (known : Known) (lawful : AllLawful known) where
  lawful_fields : (fs : List Field) → AllByRecursion (GoodField known) fs → LawfulSlots (map (slot_of known) fs)
  lawful_fields [] h = tt
  lawful_fields (f ∷ fs) h = (record { kind = h.0.kind; is = h.0.known_type; lawful = lawful f.type f.argument h.0.kind h.0.known_type }, lawful_fields fs h.1)

  lawful_groups : (version : ℕ) (gs : List Group) → AllByRecursion (GoodGroup known version) gs → AllByRecursion (λ g. LawfulSlots g.block.slots) (map (group_view known) gs)
  lawful_groups version [] h = tt
  lawful_groups version (g ∷ gs) h = (lawful_fields g.block.fields h.0.block.fields, lawful_groups version gs h.1)

  pub lawful_view : (version : ℕ) (t : Template) → GoodTemplate known version t → LawfulView (view_of known t)
  lawful_view version t h = record { root = lawful_fields t.root.fields h.root.fields; groups = lawful_groups version t.groups h.groups }

field_lawful : (base tag : ℕ) (fs : List Slot) → LawfulSlots fs → IfFound (λ f. LawfulSlot f.slot) (field_in base fs tag)
field_lawful base tag [] l = tt
field_lawful base tag (f ∷ fs) l = ⊎_elim (λ a. rw a.0 l.0) (λ a. rw a.0 (field_lawful base tag fs l.1)) (eqb_tells f.tag tag)

group_lawful : (from tag : ℕ) (gs : List GroupView) (ess : List (List (List Meaning))) → AllByRecursion (λ g. LawfulSlots g.block.slots) gs → IfFound (λ g. LawfulSlots g.group.block.slots) (group_in from gs ess tag)
group_lawful from tag [] ess l = tt
group_lawful from tag (g ∷ gs) [] l = tt
group_lawful from tag (g ∷ gs) (es ∷ ess) l = ⊎_elim (λ a. rw a.0 l.0) (λ a. rw a.0 (group_lawful (from + length (group_bytes g es)) tag gs ess l.1)) (eqb_tells g.tag tag)

module _ (v : View) (c : Contents) (l : LawfulView v) where
  group_lawful_if_found : (tag : ℕ) → IfFound (λ g. LawfulSlots g.group.block.slots) (group_spot v c tag)
  group_lawful_if_found tag = group_lawful (12 + v.root.size) tag v.groups c.groups l.groups

  -- so are the kinds of a group that is found
  pub found_group_lawful : (tag : ℕ) (g : GroupSpot) → group_spot v c tag ≡ Ok g → LawfulSlots g.group.block.slots
  found_group_lawful tag g e = found (λ x. LawfulSlots x.group.block.slots) (group_spot v c tag) g (group_lawful_if_found tag) e

  entry_field_lawful : (group entry tag : ℕ) (g : GroupSpot) → LawfulSlots g.group.block.slots → IfFound (λ f. LawfulSlot f.slot) (field_of_entry group entry tag g)
  entry_field_lawful group entry tag g h =
      let all = field_lawful (g.place + 3 + entry * g.group.block.size) tag g.group.block.slots h in
      ⊎_elim (λ a. rw a all) (λ a. rw a tt) (cases_Bool (ltb entry (length g.entries)))

  -- and the kind of a field that is found
  pub found_field_lawful : (group entry tag : ℕ) (f : FieldSpot) → field_spot v c group entry tag ≡ Ok f → LawfulSlot f.slot
  found_field_lawful group entry tag f e = found (λ x. LawfulSlot x.slot) (field_spot v c group entry tag) f by_group e
    where
      by_group : IfFound (λ x. LawfulSlot x.slot) (field_spot v c group entry tag)
      by_group =
          let root = field_lawful 12 tag v.root.slots l.root in
          let all = found_bind (λ g. LawfulSlots g.group.block.slots) (λ x. LawfulSlot x.slot) (group_spot v c group) (field_of_entry group entry tag) (group_lawful_if_found group) (entry_field_lawful group entry tag) in
          ⊎_elim
          (λ a. ⊎_elim (λ z. rw (a.0, z.0) root) (λ z. rw (a.0, z.0) tt) (eqb_tells entry 0))
          (λ a. rw a.0 all)
          (eqb_tells group 0)

-- ---- one entry more, and one less

pub entries_push : (b : BlockView) (es : List (List Meaning)) (ms : List Meaning) → entries_bytes b (es ++ (ms ∷ [])) ≡ entries_bytes b es ++ block_bytes b ms
entries_push b [] ms = append-nil (block_bytes b ms)
entries_push b (x ∷ es) ms = ap (λ y. block_bytes b x ++ y) (entries_push b es ms) ∙ sym (append_assoc (block_bytes b x) (entries_bytes b es) (block_bytes b ms))

-- the last of n + 1 entries
pub record LastEntry (b : BlockView) (es : List (List Meaning)) (n : ℕ) : Type 0 where
  pub last : List Meaning
  pub right : Filled b.slots last
  pub kept_right : Entries false b (take n es)
  pub kept_count : length (take n es) ≡ n
  pub bytes : entries_bytes b es ≡ entries_bytes b (take n es) ++ block_bytes b last

pub last_entry : (b : BlockView) (es : List (List Meaning)) (n : ℕ) → Entries false b es → length es ≡ suc n → LastEntry b es n
last_entry b [] n k e = absurd (omega arith)
last_entry b (ms ∷ []) zero k e = record { last = ms; right = k.0.0; kept_right = tt; kept_count = refl; bytes = append-nil (block_bytes b ms) }
last_entry b (ms ∷ []) (suc n) k e = absurd (omega arith)
last_entry b (ms ∷ (x ∷ es)) zero k e = absurd (omega arith)
last_entry b (ms ∷ (x ∷ es)) (suc n) k e =
    let r = last_entry b (x ∷ es) n k.1 (omega arith) in
    record {
      last = r.last;
      right = r.right;
      kept_right = (k.0, r.kept_right);
      kept_count = ap suc r.kept_count;
      bytes = ap (λ y. block_bytes b ms ++ y) r.bytes ∙ sym (append_assoc (block_bytes b ms) (entries_bytes b (take n (x ∷ es))) (block_bytes b r.last));
    }

module _ (g : GroupView) (es : List (List Meaning)) where
  -- a group with one entry more: another number, and the blank entry behind the others
  pub record Appended : Type 0 where
    pub bytes : group_bytes g (one_more g es) ≡ (le_bytes 2 g.block.size ++ (suc (length es) ∷ entries_bytes g.block es)) ++ block_bytes g.block (blank_entry g.block)
    pub entries_long : length (entries_bytes g.block es) ≡ length es * g.block.size
    pub was_long : length (group_bytes g es) ≡ 3 + length es * g.block.size
    pub front_long : length (le_bytes 2 g.block.size ++ (suc (length es) ∷ entries_bytes g.block es)) ≡ 3 + length es * g.block.size
    pub blank_long : length (block_bytes g.block (blank_entry g.block)) ≡ g.block.size
    pub is_long : length (group_bytes g (one_more g es)) ≡ 3 + length es * g.block.size + g.block.size

  pub appended : Sized g.block → LawfulSlots g.block.slots → Entries false g.block es → Appended
  appended s l k =
      let n = entries_long false g.block es s k in
      let w = blank_long g.block s l in
      let count : length (one_more g es) ≡ suc (length es) = rw length-append (omega arith) in
      let same : group_bytes g (one_more g es) ≡ (le_bytes 2 g.block.size ++ (suc (length es) ∷ entries_bytes g.block es)) ++ block_bytes g.block (blank_entry g.block) =
      λ i. le_bytes 2 g.block.size ++ (count i ∷ entries_push g.block es (blank_entry g.block) i) in
      record {
        bytes = same;
        entries_long = n;
        was_long = omega arith;
        front_long = omega arith;
        blank_long = w;
        is_long = ap length same ∙ rw length-append (omega arith);
      }

  -- a group with one entry less: another number, and no last entry
  pub record Dropped : Type 0 where
    pub last : List ℕ
    pub was : group_bytes g es ≡ (le_bytes 2 g.block.size ++ (length es ∷ entries_bytes g.block (one_less g es))) ++ last
    pub is : group_bytes g (one_less g es) ≡ le_bytes 2 g.block.size ++ ((length es - 1) ∷ entries_bytes g.block (one_less g es))
    pub right : Entries false g.block (one_less g es)
    pub last_long : length last ≡ g.block.size
    pub kept_long : length (entries_bytes g.block (one_less g es)) ≡ (length es - 1) * g.block.size
    pub was_long : length (group_bytes g es) ≡ 3 + (length es - 1) * g.block.size + g.block.size
    pub is_long : length (group_bytes g (one_less g es)) ≡ 3 + (length es - 1) * g.block.size

  pub dropped : Sized g.block → Entries false g.block es → 0 < length es → Dropped
  dropped s k l =
      let n = length es - 1 in
      let r = last_entry g.block es n k (omega arith) in
      let w = block_length g.block r.last s r.right in
      let e = entries_long false g.block (one_less g es) s r.kept_right in
      let m : length (entries_bytes g.block (one_less g es)) ≡ n * g.block.size = e ∙ ap (λ x. x * g.block.size) r.kept_count in
      let same : group_bytes g es ≡ (le_bytes 2 g.block.size ++ (length es ∷ entries_bytes g.block (one_less g es))) ++ block_bytes g.block r.last =
      λ i. le_bytes 2 g.block.size ++ (length es ∷ r.bytes i) in
      record {
        last = block_bytes g.block r.last;
        was = same;
        is = λ i. le_bytes 2 g.block.size ++ (r.kept_count i ∷ entries_bytes g.block (one_less g es));
        right = r.kept_right;
        last_long = w;
        kept_long = m;
        was_long = ap length same ∙ rw length-append (omega arith);
        is_long = omega arith;
      }

-- the same in the contents

module _ (v : View) (c : Contents) where
  -- an entry is appended: the number of entries is one more, and the blank entry stands between the others and what follows
  pub record AppendSplits (tag : ℕ) (g : GroupSpot) : Type 0 where
    pub before : List ℕ
    pub behind : List ℕ
    pub was : contents_bytes v c ≡ before ++ (length g.entries ∷ (entries_bytes g.group.block g.entries ++ behind))
    pub is : contents_bytes v (with_group v c one_more tag) ≡ before ++ (suc (length g.entries) ∷ (entries_bytes g.group.block g.entries ++ (block_bytes g.group.block (blank_entry g.group.block) ++ behind)))
    pub at : 12 + length before ≡ g.place + 2
    pub entries_long : length (entries_bytes g.group.block g.entries) ≡ length g.entries * g.group.block.size
    pub blank_long : length (block_bytes g.group.block (blank_entry g.group.block)) ≡ g.group.block.size

  pub append_splits : (tag : ℕ) (g : GroupSpot) → GroupSplits v c tag g → LawfulSlots g.group.block.slots → AppendSplits tag g
  append_splits tag g x l =
      let a = appended g.group g.entries x.sized l x.right in
      let p = x.splits one_more in
      let b = g.group.block in
      let size = le_bytes 2 b.size in
      let es = entries_bytes b g.entries in
      let blank = block_bytes b (blank_entry b) in
      let n = p.at in
      record {
        before = p.before ++ size;
        behind = p.behind;
        was = p.was ∙ sym (append_assoc p.before size (length g.entries ∷ (es ++ p.behind)));
        is = p.is ∙ ap (λ y. p.before ++ (y ++ p.behind)) a.bytes ∙ ap (λ y. p.before ++ (size ++ (suc (length g.entries) ∷ y))) (append_assoc es blank p.behind) ∙ sym (append_assoc p.before size (suc (length g.entries) ∷ (es ++ (blank ++ p.behind))));
        at = rw length-append (omega arith);
        entries_long = a.entries_long;
        blank_long = a.blank_long;
      }

  -- the last entry is dropped: the number of entries is one less, and what follows stands right behind the others
  pub record DropSplits (tag : ℕ) (g : GroupSpot) : Type 0 where
    pub before : List ℕ
    pub kept : List ℕ
    pub last : List ℕ
    pub behind : List ℕ
    pub was : contents_bytes v c ≡ before ++ (length g.entries ∷ (kept ++ (last ++ behind)))
    pub is : contents_bytes v (with_group v c one_less tag) ≡ before ++ ((length g.entries - 1) ∷ (kept ++ behind))
    pub at : 12 + length before ≡ g.place + 2
    pub kept_long : length kept ≡ (length g.entries - 1) * g.group.block.size
    pub last_long : length last ≡ g.group.block.size

  pub drop_splits : (tag : ℕ) (g : GroupSpot) → GroupSplits v c tag g → 0 < length g.entries → DropSplits tag g
  drop_splits tag g x l =
      let d = dropped g.group g.entries x.sized x.right l in
      let p = x.splits one_less in
      let b = g.group.block in
      let size = le_bytes 2 b.size in
      let es = entries_bytes b (one_less g.group g.entries) in
      let n = p.at in
      record {
        before = p.before ++ size;
        kept = es;
        last = d.last;
        behind = p.behind;
        was = p.was ∙ ap (λ y. p.before ++ (y ++ p.behind)) d.was ∙ ap (λ y. p.before ++ (size ++ (length g.entries ∷ y))) (append_assoc es d.last p.behind) ∙ sym (append_assoc p.before size (length g.entries ∷ (es ++ (d.last ++ p.behind))));
        is = p.is ∙ ap (λ y. p.before ++ (y ++ p.behind)) d.is ∙ sym (append_assoc p.before size ((length g.entries - 1) ∷ (es ++ p.behind)));
        at = rw length-append (omega arith);
        kept_long = d.kept_long;
        last_long = d.last_long;
      }
