-- What each call does to a message: proofs of what is said by group, entry and tag.
use Rattle.std.proofs.Common.{◌≡◌, ℕ, zero, suc, ◌+◌, ◌-◌, ◌*◌, ◌<◌, Bool, true, false, cond, eqb, ltb, leb, List, [], ◌∷◌, ◌++◌, map, length, take, Some, None, Ok, Err, Option, Result, sym, refl, ap, ◌∙◌, subst, ⊎_elim, arith, length-append}
use Rattle.std.specs.List.{AllByRecursion}
use Rattle.std.proofs.lemmas.Bool.{cases_Bool, ltb-true, lt-ltb, eq-eqb, ne_eqb}
use Rattle.std.proofs.lemmas.Bool.Decides.{eqb_tells}
use Rattle.wire.specs.declared.refusal.Reason.{Reason}
use Rattle.wire.specs.declared.refusal.Refusal.{Refusal}
use Rattle.wire.specs.Refusals.{refusal, located_as, bind}
use Rattle.types.specs.Meanings.{Meaning}
use Rattle.types.specs.Kinds.{Kind, Known}
use Rattle.schema.specs.Verdicts.{fine}
use Rattle.schema.specs.Structure.{Template}
use Rattle.schema.specs.Reading.{dictionary_of}
use Rattle.schema.specs.Seen.{template_at}
use Rattle.message.specs.Blocks.{Slot, BlockView, Filled}
use Rattle.message.specs.Frames.{GroupView, DataView, View, Contents, group_bytes, groups_bytes, part_bytes, Entries, Groups, Holds}
use Rattle.message.specs.Messages.{Message, view_of, template_geometry}
use Rattle.calls.specs.Changes.{◌before◌, blank_meaning, blank_entry, blank_contents, closing_verdict, FieldSpot, GroupSpot, field_in, group_in, part_in, field_of_entry, group_spot, part_spot, field_spot, with_meaning, with_element, with_entries, with_part, one_more, one_less, with_field, with_group, with_data, with_room, needed, fits, pattern_of_value, has_room_for_entry, set_field, clear_field, append_entry, drop_entry, write_data}
use Rattle.calls.specs.Calls.{Form, opened, closed, close, Outcome, becomes, refuses, out_of_turn, turned, asked, by_messages, can_open, opened_by, closed_by, opening, closing, reopening}
use Rattle.calls.specs.Meant.{had, meaning_in_entries, meaning_in_groups, meaning_in, kind_by, block_in, kind_in_block, kind_in, AlikeButForGroup, Sets, Clears, Appends, Drops, Writes, FillsMeanWhatTheySay, BlankThroughout, Opens, ClosesAndReopens, ClosedAndReopened, FormsMeanWhatTheySay, EveryCallMeansWhatItSays}

-- ---- what an answer gives, if it gives something

abbrev On : {X : Type 0} → (X → Type 0) → Result X Refusal → Type 0
On P (Ok x) = P x
On P (Err e) = Unit {0}

module _ {X : Type 0} where
  on_this : (P : X → Type 0) (r : Result X Refusal) → On P r → (x : X) → r ≡ Ok x → P x
  on_this P r h x e = subst (On P) e h

  on_weaker : (P Q : X → Type 0) (r : Result X Refusal) → On P r → ((x : X) → P x → Q x) → On Q r
  on_weaker P Q (Ok x) g h = h x g
  on_weaker P Q (Err e) g h = tt

  on_any : (P : X → Type 0) (r : Result X Refusal) → ((x : X) → P x) → On P r
  on_any P (Ok x) h = h x
  on_any P (Err e) h = tt

  on_rule : (P : X → Type 0) (b : Bool) (why : Reason) (place tag : ℕ) (r : Result X Refusal) → (b ≡ true → On P r) → On P (bind (cond b fine (Err (refusal why place tag))) (λ _. r))
  on_rule P true why place tag r h = h refl
  on_rule P false why place tag r h = tt

on_bind : {X Y : Type 0} (P : X → Type 0) (Q : Y → Type 0) (r : Result X Refusal) (f : X → Result Y Refusal) → On P r → ((x : X) → P x → On Q (f x)) → On Q (bind r f)
on_bind P Q (Ok x) f g h = h x g
on_bind P Q (Err e) f g h = tt

-- the same of what a call becomes
abbrev OnOutcome : {X : Type 0} → (X → Type 0) → Outcome X → Type 0
OnOutcome P (becomes x) = P x
OnOutcome P (refuses e) = Unit {0}
OnOutcome P out_of_turn = Unit {0}

-- ---- a field of a block

has_set : (base tag : ℕ) (m : Meaning) (fs : List Slot) (ms : List Meaning) → Filled fs ms → On (λ _. had (λ f. f.tag) fs (with_meaning tag m fs ms) tag ≡ Some m) (field_in base fs tag)
has_set base tag m [] ms k = tt
has_set base tag m (f ∷ fs) [] k = absurd k
has_set base tag m (f ∷ fs) (x ∷ xs) k =
    ⊎_elim
    (λ a. rw (a.0, a.0) refl)
    (λ a. rw (a.0, a.0) (has_set base tag m fs xs k.1))
    (eqb_tells f.tag tag)

other_tags : (tag : ℕ) (m : Meaning) (tag' : ℕ) → (tag' ≡ tag → ⊥) → (fs : List Slot) (ms : List Meaning) → had (λ f. f.tag) fs (with_meaning tag m fs ms) tag' ≡ had (λ f. f.tag) fs ms tag'
other_tags tag m tag' d [] ms = refl
other_tags tag m tag' d (f ∷ fs) [] = refl
other_tags tag m tag' d (f ∷ fs) (x ∷ xs) =
    ⊎_elim
    (λ a. let n : eqb f.tag tag' ≡ false = ne_eqb f.tag tag' (λ e. d (sym e ∙ a.1)) in rw (a.0, n) refl)
    (λ a. rw a.0 (ap (λ o. cond (eqb f.tag tag') (Some x) o) (other_tags tag m tag' d fs xs)))
    (eqb_tells f.tag tag)

its_kind : (base tag : ℕ) (fs : List Slot) → On (λ s. kind_by fs tag ≡ Some s.slot.kind) (field_in base fs tag)
its_kind base tag [] = tt
its_kind base tag (f ∷ fs) =
    ⊎_elim
    (λ a. rw a.0 refl)
    (λ a. rw a.0 (its_kind base tag fs))
    (eqb_tells f.tag tag)

-- a blank entry has blanks
blank_field : (tag : ℕ) (k : Option Kind) (fs : List Slot) → kind_by fs tag ≡ Some k → had (λ f. f.tag) fs (map (λ f. blank_meaning f.kind) fs) tag ≡ Some (blank_meaning k)
blank_field tag k fs e = is_blank fs ∙ ap blank_of e
  where
    blank_of : Option (Option Kind) → Option Meaning
    blank_of None = None
    blank_of (Some k) = Some (blank_meaning k)

    is_blank : (fs : List Slot) → had (λ f. f.tag) fs (map (λ f. blank_meaning f.kind) fs) tag ≡ blank_of (kind_by fs tag)
    is_blank [] = refl
    is_blank (f ∷ fs) =
        ⊎_elim
        (λ a. rw a.0 refl)
        (λ a. rw a.0 (is_blank fs))
        (eqb_tells f.tag tag)

-- ---- a field of an entry

has_in_entry : (base tag : ℕ) (m : Meaning) (b : BlockView) (entry : ℕ) (es : List (List Meaning)) → Entries false b es → entry < length es → On (λ _. meaning_in_entries b.slots (with_element (with_meaning tag m b.slots) entry es) entry tag ≡ Some m) (field_in base b.slots tag)
has_in_entry base tag m b entry [] k l = absurd (omega arith)
has_in_entry base tag m b zero (ms ∷ es) k l = has_set base tag m b.slots ms k.0.0
has_in_entry base tag m b (suc entry) (ms ∷ es) k l = has_in_entry base tag m b entry es k.1 (omega arith)

others_in_entries : (tag : ℕ) (m : Meaning) (fs : List Slot) (entry entry' tag' : ℕ) → (entry' ≡ entry → tag' ≡ tag → ⊥) → (es : List (List Meaning)) → meaning_in_entries fs (with_element (with_meaning tag m fs) entry es) entry' tag' ≡ meaning_in_entries fs es entry' tag'
others_in_entries tag m fs entry entry' tag' d [] = refl
others_in_entries tag m fs zero zero tag' d (ms ∷ es) = other_tags tag m tag' (d refl) fs ms
others_in_entries tag m fs zero (suc entry') tag' d (ms ∷ es) = refl
others_in_entries tag m fs (suc entry) zero tag' d (ms ∷ es) = refl
others_in_entries tag m fs (suc entry) (suc entry') tag' d (ms ∷ es) = others_in_entries tag m fs entry entry' tag' (λ e. d (ap suc e)) es

as_many : (h : List Meaning → List Meaning) (i : ℕ) (es : List (List Meaning)) → length (with_element h i es) ≡ length es
as_many h i [] = refl
as_many h zero (ms ∷ es) = refl
as_many h (suc i) (ms ∷ es) = ap suc (as_many h i es)

-- ---- a group

abbrev in_entry : ℕ → ℕ → Meaning → GroupView → List (List Meaning) → List (List Meaning)
in_entry entry tag m g es = with_element (with_meaning tag m g.block.slots) entry es

-- a group that is found: its block, and what a field of its entries means when it is set
pub record FoundGroup (gs : List GroupView) (ess : List (List (List Meaning))) (group : ℕ) (g : GroupSpot) : Type 0 where
  pub right : Entries false g.group.block g.entries
  pub block : block_in gs group ≡ Some g.group.block
  pub was : had (λ x. x.tag) gs ess group ≡ Some g.entries
  pub is : (h : GroupView → List (List Meaning) → List (List Meaning)) → had (λ x. x.tag) gs (with_entries h group gs ess) group ≡ Some (h g.group g.entries)
  pub means : (h : GroupView → List (List Meaning) → List (List Meaning)) (entry tag : ℕ) → meaning_in_groups gs (with_entries h group gs ess) group entry tag ≡ meaning_in_entries g.group.block.slots (h g.group g.entries) entry tag

found_group : (p group : ℕ) (gs : List GroupView) (ess : List (List (List Meaning))) → Groups false gs ess → On (FoundGroup gs ess group) (group_in p gs ess group)
found_group p group [] ess k = tt
found_group p group (g ∷ gs) [] k = tt
found_group p group (g ∷ gs) (es ∷ ess) k =
    ⊎_elim
    (λ a. rw a.0 (record { right = k.1; block = rw a.0 refl; was = rw a.0 refl; is = λ h. rw (a.0, a.0) refl; means = λ h entry tag. rw (a.0, a.0) refl }))
    (λ a. rw a.0 (on_weaker (FoundGroup gs ess group) (FoundGroup (g ∷ gs) (es ∷ ess) group) (group_in (p + length (group_bytes g es)) gs ess group) (found_group (p + length (group_bytes g es)) group gs ess k.2) (λ s x. record {
      right = x.right;
      block = rw a.0 x.block;
      was = rw a.0 x.was;
      is = λ h. rw (a.0, a.0) (x.is h);
      means = λ h entry tag. rw (a.0, a.0) (x.means h entry tag);
    })))
    (eqb_tells g.tag group)

-- other entries in one group: what other groups have stands
other_groups : (h : GroupView → List (List Meaning) → List (List Meaning)) (group group' : ℕ) → (group' ≡ group → ⊥) → (gs : List GroupView) (ess : List (List (List Meaning))) → had (λ x. x.tag) gs (with_entries h group gs ess) group' ≡ had (λ x. x.tag) gs ess group'
other_groups h group group' d [] ess = refl
other_groups h group group' d (g ∷ gs) [] = refl
other_groups h group group' d (g ∷ gs) (es ∷ ess) =
    ⊎_elim
    (λ a. let n : eqb g.tag group' ≡ false = ne_eqb g.tag group' (λ e. d (sym e ∙ a.1)) in rw (a.0, n) refl)
    (λ a. rw a.0 (ap (λ o. cond (eqb g.tag group') (Some es) o) (other_groups h group group' d gs ess)))
    (eqb_tells g.tag group)

means_in_others : (h : GroupView → List (List Meaning) → List (List Meaning)) (group group' entry tag : ℕ) → (group' ≡ group → ⊥) → (gs : List GroupView) (ess : List (List (List Meaning))) → meaning_in_groups gs (with_entries h group gs ess) group' entry tag ≡ meaning_in_groups gs ess group' entry tag
means_in_others h group group' entry tag d [] ess = refl
means_in_others h group group' entry tag d (g ∷ gs) [] = refl
means_in_others h group group' entry tag d (g ∷ gs) (es ∷ ess) =
    ⊎_elim
    (λ a. let n : eqb g.tag group' ≡ false = ne_eqb g.tag group' (λ e. d (sym e ∙ a.1)) in rw (a.0, n) refl)
    (λ a. rw a.0 (ap (λ o. cond (eqb g.tag group') (meaning_in_entries g.block.slots es entry tag) o) (means_in_others h group group' entry tag d gs ess)))
    (eqb_tells g.tag group)

means_in_same : (tag : ℕ) (m : Meaning) (group entry entry' tag' : ℕ) → (entry' ≡ entry → tag' ≡ tag → ⊥) → (gs : List GroupView) (ess : List (List (List Meaning))) → meaning_in_groups gs (with_entries (in_entry entry tag m) group gs ess) group entry' tag' ≡ meaning_in_groups gs ess group entry' tag'
means_in_same tag m group entry entry' tag' d [] ess = refl
means_in_same tag m group entry entry' tag' d (g ∷ gs) [] = refl
means_in_same tag m group entry entry' tag' d (g ∷ gs) (es ∷ ess) =
    ⊎_elim
    (λ a. rw (a.0, a.0) (others_in_entries tag m g.block.slots entry entry' tag' d es))
    (λ a. rw (a.0, a.0) (means_in_same tag m group entry entry' tag' d gs ess))
    (eqb_tells g.tag group)

same_counts : (tag : ℕ) (m : Meaning) (group entry : ℕ) (gs : List GroupView) (ess : List (List (List Meaning))) → map length (with_entries (in_entry entry tag m) group gs ess) ≡ map length ess
same_counts tag m group entry [] ess = refl
same_counts tag m group entry (g ∷ gs) [] = refl
same_counts tag m group entry (g ∷ gs) (es ∷ ess) =
    ⊎_elim
    (λ a. rw a.0 (ap (λ n. n ∷ map length ess) (as_many (with_meaning tag m g.block.slots) entry es)))
    (λ a. rw a.0 (ap (λ ns. length es ∷ ns) (same_counts tag m group entry gs ess)))
    (eqb_tells g.tag group)

-- the group is found again where its entries are others
found_again : (p group : ℕ) (h : GroupView → List (List Meaning) → List (List Meaning)) (gs : List GroupView) (ess : List (List (List Meaning))) → On (λ g. group_in p gs (with_entries h group gs ess) group ≡ Ok (record { place = g.place; group = g.group; entries = h g.group g.entries })) (group_in p gs ess group)
found_again p group h [] ess = tt
found_again p group h (g ∷ gs) [] = tt
found_again p group h (g ∷ gs) (es ∷ ess) =
    ⊎_elim
    (λ a. rw (a.0, a.0) refl)
    (λ a. rw (a.0, a.0) (found_again (p + length (group_bytes g es)) group h gs ess))
    (eqb_tells g.tag group)

-- one entry more and then one less
more_and_less : (x : List Meaning) (es : List (List Meaning)) → take (length (es ++ (x ∷ [])) - 1) (es ++ (x ∷ [])) ≡ es
more_and_less x es = subst (λ n. take n (es ++ (x ∷ [])) ≡ es) (long es) (first es)
  where
    long : (es : List (List Meaning)) → length es ≡ length (es ++ (x ∷ [])) - 1
    long es = rw length-append (omega arith)

    first : (es : List (List Meaning)) → take (length es) (es ++ (x ∷ [])) ≡ es
    first [] = refl
    first (y ∷ es) = ap (λ r. y ∷ r) (first es)

more_and_less_in : (group : ℕ) (gs : List GroupView) (ess : List (List (List Meaning))) → with_entries one_less group gs (with_entries one_more group gs ess) ≡ ess
more_and_less_in group [] ess = refl
more_and_less_in group (g ∷ gs) [] = refl
more_and_less_in group (g ∷ gs) (es ∷ ess) =
    ⊎_elim
    (λ a. rw (a.0, a.0) (ap (λ r. r ∷ ess) (more_and_less (blank_entry g.block) es)))
    (λ a. rw (a.0, a.0) (ap (λ r. es ∷ r) (more_and_less_in group gs ess)))
    (eqb_tells g.tag group)

-- the last of n + 1 entries
record Last (es : List (List Meaning)) (n : ℕ) : Type 0 where
  last : List Meaning
  splits : es ≡ take n es ++ (last ∷ [])

last_of : (es : List (List Meaning)) (n : ℕ) → length es ≡ suc n → Last es n
last_of [] n e = absurd (omega arith)
last_of (x ∷ []) zero e = record { last = x; splits = refl }
last_of (x ∷ []) (suc n) e = absurd (omega arith)
last_of (x ∷ (y ∷ es)) zero e = absurd (omega arith)
last_of (x ∷ (y ∷ es)) (suc n) e = let r = last_of (y ∷ es) n (omega arith) in record { last = r.last; splits = ap (λ z. x ∷ z) r.splits }

-- ---- data

written_part : (p tag : ℕ) (x : List ℕ) (ds : List DataView) (xs : List (List ℕ)) → On (λ _. had (λ d. d.tag) ds (with_part tag x ds xs) tag ≡ Some x) (part_in p ds xs tag)
written_part p tag x [] xs = tt
written_part p tag x (d ∷ ds) [] = tt
written_part p tag x (d ∷ ds) (y ∷ ys) =
    ⊎_elim
    (λ a. rw (a.0, a.0) refl)
    (λ a. rw (a.0, a.0) (written_part (p + length (part_bytes d y)) tag x ds ys))
    (eqb_tells d.tag tag)

other_parts : (tag : ℕ) (x : List ℕ) (tag' : ℕ) → (tag' ≡ tag → ⊥) → (ds : List DataView) (xs : List (List ℕ)) → had (λ d. d.tag) ds (with_part tag x ds xs) tag' ≡ had (λ d. d.tag) ds xs tag'
other_parts tag x tag' n [] xs = refl
other_parts tag x tag' n (d ∷ ds) [] = refl
other_parts tag x tag' n (d ∷ ds) (y ∷ ys) =
    ⊎_elim
    (λ a. let o : eqb d.tag tag' ≡ false = ne_eqb d.tag tag' (λ e. n (sym e ∙ a.1)) in rw (a.0, o) refl)
    (λ a. rw a.0 (ap (λ o. cond (eqb d.tag tag') (Some y) o) (other_parts tag x tag' n ds ys)))
    (eqb_tells d.tag tag)

-- ---- the calls

not_0 : (n : ℕ) → eqb (suc n) 0 ≡ false
not_0 n = ne_eqb (suc n) 0 (λ e. omega arith)

module _ (room : ℕ) (v : View) (c : Contents) (h : Holds false v c) where
  -- a field that is found: its type, and what a meaning put there does
  pub record FoundField (group entry tag : ℕ) (f : FieldSpot) : Type 0 where
    pub of_kind : kind_in v group tag ≡ Some f.slot.kind
    pub sets : (m : Meaning) → Sets v c (with_field v c group entry tag m) group entry tag m

  root_others : (tag : ℕ) (m : Meaning) (group' entry' tag' : ℕ) → (group' ≡ 0 → entry' ≡ 0 → tag' ≡ tag → ⊥) → meaning_in v (with_field v c 0 0 tag m) group' entry' tag' ≡ meaning_in v c group' entry' tag'
  root_others tag m zero zero tag' d = other_tags tag m tag' (d refl refl) v.root.slots c.root
  root_others tag m zero (suc entry') tag' d = rw (not_0 entry') refl
  root_others tag m (suc group') entry' tag' d = rw (not_0 group') refl

  root_sets : (tag : ℕ) (m : Meaning) → had (λ f. f.tag) v.root.slots (with_meaning tag m v.root.slots c.root) tag ≡ Some m → Sets v c (with_field v c 0 0 tag m) 0 0 tag m
  root_sets tag m e = record { has = e; else_alike = record { others = root_others tag m; counts = refl; parts = refl } }

  root_found : (tag : ℕ) → On (FoundField 0 0 tag) (field_in 12 v.root.slots tag)
  root_found tag = by (field_in 12 v.root.slots tag) (its_kind 12 tag v.root.slots) (λ m. has_set 12 tag m v.root.slots c.root h.root.0)
    where
      by : (r : Result FieldSpot Refusal) → On (λ s. kind_by v.root.slots tag ≡ Some s.slot.kind) r → ((m : Meaning) → On (λ _. had (λ f. f.tag) v.root.slots (with_meaning tag m v.root.slots c.root) tag ≡ Some m) r) → On (FoundField 0 0 tag) r
      by (Ok f) k s = record { of_kind = k; sets = λ m. root_sets tag m (s m) }
      by (Err e) k s = tt

  entry_others : (group entry tag : ℕ) (m : Meaning) (group' entry' tag' : ℕ) → (group' ≡ suc group → entry' ≡ entry → tag' ≡ tag → ⊥) → meaning_in v (with_field v c (suc group) entry tag m) group' entry' tag' ≡ meaning_in v c group' entry' tag'
  entry_others group entry tag m zero entry' tag' d = rw (not_0 group) refl
  entry_others group entry tag m (suc group') entry' tag' d = rw (not_0 group, not_0 group') (⊎_elim
      (λ a. subst (λ x. meaning_in_groups v.groups (with_entries (in_entry entry tag m) (suc group) v.groups c.groups) x entry' tag' ≡ meaning_in_groups v.groups c.groups x entry' tag') (sym a.1) (means_in_same tag m (suc group) entry entry' tag' (d a.1) v.groups c.groups))
      (λ a. means_in_others (in_entry entry tag m) (suc group) (suc group') entry' tag' a.1 v.groups c.groups)
      (eqb_tells (suc group') (suc group)))

  entry_found : (group entry tag : ℕ) (g : GroupSpot) → FoundGroup v.groups c.groups (suc group) g → On (FoundField (suc group) entry tag) (field_of_entry (suc group) entry tag g)
  entry_found group entry tag g x =
      ⊎_elim
      (λ a. rw a (by (field_in (g.place + 3 + entry * g.group.block.size) g.group.block.slots tag) (its_kind (g.place + 3 + entry * g.group.block.size) tag g.group.block.slots) (λ m. has_in_entry (g.place + 3 + entry * g.group.block.size) tag m g.group.block entry g.entries x.right (ltb-true _ _ a))))
      (λ a. rw a tt)
      (cases_Bool (ltb entry (length g.entries)))
    where
      by : (r : Result FieldSpot Refusal) → On (λ s. kind_by g.group.block.slots tag ≡ Some s.slot.kind) r → ((m : Meaning) → On (λ _. meaning_in_entries g.group.block.slots (with_element (with_meaning tag m g.group.block.slots) entry g.entries) entry tag ≡ Some m) r) → On (FoundField (suc group) entry tag) r
      by (Ok f) k s = record {
        of_kind = rw (not_0 group) (ap (λ o. kind_in_block o tag) x.block ∙ k);
        sets = λ m. record {
          has = rw (not_0 group) (x.means (in_entry entry tag m) entry tag ∙ s m);
          else_alike = record { others = entry_others group entry tag m; counts = rw (not_0 group) (same_counts tag m (suc group) entry v.groups c.groups); parts = rw (not_0 group) refl };
        };
      }
      by (Err e) k s = tt

  field_found : (group entry tag : ℕ) → On (FoundField group entry tag) (field_spot v c group entry tag)
  field_found zero zero tag = root_found tag
  field_found zero (suc entry) tag = rw (not_0 entry) tt
  field_found (suc group) entry tag =
      let all = on_bind (FoundGroup v.groups c.groups (suc group)) (FoundField (suc group) entry tag) (group_spot v c (suc group)) (field_of_entry (suc group) entry tag) (found_group (12 + v.root.size) (suc group) v.groups c.groups h.groups) (entry_found group entry tag) in rw (not_0 group) all

  sets : (group entry tag : ℕ) (m : Meaning) → On (λ c'. Sets v c c' group entry tag m) (set_field room v c group entry tag m)
  sets group entry tag m =
      on_bind (FoundField group entry tag) (λ c'. Sets v c c' group entry tag m) (field_spot v c group entry tag) _ (field_found group entry tag)
      (λ f x. on_bind (λ _. Unit {0}) (λ c'. Sets v c c' group entry tag m) (located_as (pattern_of_value f.slot.kind m) f.place tag) _ (on_any (λ _. Unit {0}) _ (λ _. tt)) (λ _ _. x.sets m))

  clears : (group entry tag : ℕ) → On (λ c'. Clears v c c' group entry tag) (clear_field room v c group entry tag)
  clears group entry tag =
      on_bind (FoundField group entry tag) (λ c'. Clears v c c' group entry tag) (field_spot v c group entry tag) _ (field_found group entry tag)
      (λ f x. record { kind = f.slot.kind; of_kind = x.of_kind; sets = x.sets (blank_meaning f.slot.kind) })

  roomed : (P : Contents → Type 0) (c' : Contents) → P c' → On P (with_room room v c')
  roomed P c' p = on_rule P (fits room v c') _ (needed v c') 0 (Ok c') (λ _. p)

  else_alike : (k : GroupView → List (List Meaning) → List (List Meaning)) (group : ℕ) → AlikeButForGroup v c (with_group v c k group) group
  else_alike k group = record { others = λ group' d. other_groups k group group' d v.groups c.groups; root = refl; parts = refl }

  -- a group that is found, and found again with one entry more
  abbrev Found : ℕ → GroupSpot → Type 0
  Found group g = FoundGroup v.groups c.groups group g × (group_spot v (with_group v c one_more group) group ≡ Ok (record { place = g.place; group = g.group; entries = one_more g.group g.entries }))

  group_found : (group : ℕ) → On (Found group) (group_spot v c group)
  group_found group = both (group_spot v c group) (found_group (12 + v.root.size) group v.groups c.groups h.groups) (found_again (12 + v.root.size) group one_more v.groups c.groups)
    where
      both : (r : Result GroupSpot Refusal) → On (FoundGroup v.groups c.groups group) r → On (λ g. group_spot v (with_group v c one_more group) group ≡ Ok (record { place = g.place; group = g.group; entries = one_more g.group g.entries })) r → On (Found group) r
      both (Ok g) x y = (x, y)
      both (Err e) x y = tt

  dropped_again : (group : ℕ) (g : GroupSpot) → Found group g → drop_entry room v (with_group v c one_more group) group ≡ Ok c
  dropped_again group g x =
      let some : ltb 0 (length (one_more g.group g.entries)) ≡ true = lt-ltb 0 (length (one_more g.group g.entries)) (rw length-append (omega arith)) in
      rw (x.1, some) (ap (λ ess. Ok (record { root = c.root; groups = ess; parts = c.parts })) (more_and_less_in group v.groups c.groups))

  appends : (group : ℕ) → On (λ c'. Appends room v c c' group) (append_entry room v c group)
  appends group =
      on_bind (Found group) (λ c'. Appends room v c c' group) (group_spot v c group) _ (group_found group)
      (λ g x. on_rule (λ c'. Appends room v c c' group) (has_room_for_entry g.entries) _ (g.place + 2) group (with_room room v (with_group v c one_more group))
      (λ _. roomed (λ c'. Appends room v c c' group) (with_group v c one_more group) (record {
        block = g.group.block;
        of_block = x.0.block;
        entries = g.entries;
        had_before = x.0.was;
        has = x.0.is one_more;
        blank = λ tag k e. blank_field tag k g.group.block.slots e;
        else_alike = else_alike one_more group;
        dropped_again = dropped_again group g x;
      })))

  drops : (group : ℕ) → On (λ c'. Drops v c c' group) (drop_entry room v c group)
  drops group =
      on_bind (Found group) (λ c'. Drops v c c' group) (group_spot v c group) _ (group_found group)
      (λ g x. on_rule (λ c'. Drops v c c' group) (ltb 0 (length g.entries)) _ 0 group (Ok (with_group v c one_less group))
      (λ e. let some = ltb-true 0 (length g.entries) e in
      let l = last_of g.entries (length g.entries - 1) (omega arith) in
      record {
        entries = one_less g.group g.entries;
        last = l.last;
        had_before = x.0.was ∙ ap Some l.splits;
        has = x.0.is one_less;
        else_alike = else_alike one_less group;
      }))

  writes : (tag : ℕ) (x : List ℕ) → On (λ c'. Writes v c c' tag x) (write_data room v c tag x)
  writes tag x =
      on_bind (λ _. had (λ d. d.tag) v.parts (with_part tag x v.parts c.parts) tag ≡ Some x) (λ c'. Writes v c c' tag x) (part_spot v c tag) _ (written_part (12 + v.root.size + length (groups_bytes v.groups c.groups)) tag x v.parts c.parts)
      (λ d e. on_rule (λ c'. Writes v c c' tag x) (leb (length x) d.part.longest) _ d.place tag (with_room room v (with_data v c tag x))
      (λ _. roomed (λ c'. Writes v c c' tag x) (with_data v c tag x) (record { has = e; others = λ tag' n. other_parts tag x tag' n v.parts c.parts; root = refl; groups = refl })))

fills : (room : ℕ) (v : View) (c : Contents) → Holds false v c → FillsMeanWhatTheySay room v c
fills room v c h = record {
  set = λ group entry tag m. on_this (λ c'. Sets v c c' group entry tag m) (set_field room v c group entry tag m) (sets room v c h group entry tag m);
  clear = λ group entry tag. on_this (λ c'. Clears v c c' group entry tag) (clear_field room v c group entry tag) (clears room v c h group entry tag);
  append = λ group. on_this (λ c'. Appends room v c c' group) (append_entry room v c group) (appends room v c h group);
  remove = λ group. on_this (λ c'. Drops v c c' group) (drop_entry room v c group) (drops room v c h group);
  write = λ tag x. on_this (λ c'. Writes v c c' tag x) (write_data room v c tag x) (writes room v c h tag x);
}

-- ---- opening

no_entries : (group : ℕ) (b : BlockView) (gs : List GroupView) → block_in gs group ≡ Some b → had {X = List (List Meaning)} (λ g. g.tag) gs (map (λ _. []) gs) group ≡ Some []
no_entries group b gs e = is_empty gs ∙ ap empty_of e
  where
    empty_of : Option BlockView → Option (List (List Meaning))
    empty_of None = None
    empty_of (Some b) = Some []

    is_empty : (gs : List GroupView) → had (λ g. g.tag) gs (map (λ _. []) gs) group ≡ empty_of (block_in gs group)
    is_empty [] = refl
    is_empty (g ∷ gs) =
        ⊎_elim
        (λ a. rw a.0 refl)
        (λ a. rw a.0 (is_empty gs))
        (eqb_tells g.tag group)

-- one data more in front
no_bytes_behind : (d : DataView) (ds es : List DataView) → AllByRecursion (λ e. had {X = List ℕ} (λ d. d.tag) ds (map (λ _. []) ds) e.tag ≡ Some []) es → AllByRecursion (λ e. had {X = List ℕ} (λ d. d.tag) (d ∷ ds) (map (λ _. []) (d ∷ ds)) e.tag ≡ Some []) es
no_bytes_behind d ds [] k = tt
no_bytes_behind d ds (e ∷ es) k = (
  ⊎_elim
      (λ a. rw a.0 refl)
      (λ a. rw a.0 k.0)
      (eqb_tells d.tag e.tag),
  no_bytes_behind d ds es k.1,
)

no_bytes : (ds : List DataView) → AllByRecursion (λ e. had {X = List ℕ} (λ d. d.tag) ds (map (λ _. []) ds) e.tag ≡ Some []) ds
no_bytes [] = tt
no_bytes (d ∷ ds) = (let same = eq-eqb d.tag d.tag refl in rw same refl, no_bytes_behind d ds ds (no_bytes ds))

blank_throughout : (v : View) → BlankThroughout v (blank_contents v)
blank_throughout v = record {
  root = λ tag k e. blank_field tag k v.root.slots e;
  groups = λ group b e. no_entries group b v.groups e;
  parts = no_bytes v.parts;
}

module _ (known : Known) (s : List ℕ) where
  opens_by : (room template version : ℕ) (o : Option Template) → template_at (dictionary_of s) template version ≡ o → On (Opens known s template version) (opened_by known room template version o)
  opens_by room template version None e = tt
  opens_by room template version (Some t) e =
      on_bind (λ c. c ≡ blank_contents (view_of known t)) (Opens known s template version) (with_room room (view_of known t) (blank_contents (view_of known t))) _
      (on_rule (λ c. c ≡ blank_contents (view_of known t)) (fits room (view_of known t) (blank_contents (view_of known t))) _ (needed (view_of known t) (blank_contents (view_of known t))) 0 (Ok (blank_contents (view_of known t))) (λ _. refl))
      (λ c x. record { template_asked = refl; version_asked = refl; line = t; found = e; blank = subst (BlankThroughout (view_of known t)) (sym x) (blank_throughout (view_of known t)) })

  opens : (room template version : ℕ) → On (Opens known s template version) (opening known s room template version)
  opens room template version =
      on_rule (Opens known s template version) (can_open (dictionary_of s) template version) _ 0 0 (template_geometry known s template version before opened_by known room template version (template_at (dictionary_of s) template version))
      (λ _. on_bind (λ _. Unit {0}) (Opens known s template version) (template_geometry known s template version) _ (on_any (λ _. Unit {0}) _ (λ _. tt))
      (λ _ _. opens_by room template version (template_at (dictionary_of s) template version) refl))

  -- ---- closing and reopening

  reopens : (m : Message) → On (λ m'. m' ≡ m) (reopening known s by_messages m)
  reopens m =
      on_rule (λ m'. m' ≡ m) (can_open (dictionary_of s) m.template m.version) _ 0 0 (template_geometry known s m.template m.version before Ok m)
      (λ _. on_bind (λ _. Unit {0}) (λ m'. m' ≡ m) (template_geometry known s m.template m.version) _ (on_any (λ _. Unit {0}) _ (λ _. tt)) (λ _ _. refl))

  -- what an answer gives, it gives
  itself : (r : Result Message Refusal) → On (λ m. r ≡ Ok m) r
  itself (Ok m) = refl
  itself (Err e) = tt

  closes_by : (m : Message) (o : Option Template) → On (λ m'. m' ≡ m) (closed_by known m o)
  closes_by m None = tt
  closes_by m (Some t) = on_bind (λ _. Unit {0}) (λ m'. m' ≡ m) (closing_verdict (view_of known t) m.contents) _ (on_any (λ _. Unit {0}) _ (λ _. tt)) (λ _ _. refl)

  closes : (m : Message) → On (ClosesAndReopens known s m) (closing known s by_messages m)
  closes m =
      on_bind (λ x. reopening known s by_messages m ≡ Ok x) (ClosesAndReopens known s m) (reopening known s by_messages m) _ (itself (reopening known s by_messages m))
      (λ x e. let same : x ≡ m = on_this (λ m'. m' ≡ m) (reopening known s by_messages m) (reopens m) x e in
      on_weaker (λ m'. m' ≡ x) (ClosesAndReopens known s m) (closed_by known x (template_at (dictionary_of s) m.template m.version)) (closes_by x (template_at (dictionary_of s) m.template m.version))
      (λ m' y. record { same = y ∙ same; reopened = subst (λ z. reopening known s by_messages z ≡ Ok m) (sym (y ∙ same)) (e ∙ ap Ok same) }))

  -- the same of forms
  becomes_closed : (room : ℕ) (m : Message) (r : Result Message Refusal) → On (ClosesAndReopens known s m) r → OnOutcome (ClosedAndReopened known s room m) (turned closed r)
  becomes_closed room m (Ok m') x = record { same = ap closed x.same; in_turn = ap (turned opened) x.reopened }
  becomes_closed room m (Err e) x = tt

  close_and_reopen : (room : ℕ) (m : Message) (st : Form Message) → asked known s by_messages room (opened m) close ≡ becomes st → ClosedAndReopened known s room m st
  close_and_reopen room m st e = subst (OnOutcome (ClosedAndReopened known s room m)) e (becomes_closed room m (closing known s by_messages m) (closes m))

  forms : FormsMeanWhatTheySay known s
  forms = record {
    opens = λ room template version. on_this (Opens known s template version) (opening known s room template version) (opens room template version);
    closes = λ m. on_this (ClosesAndReopens known s m) (closing known s by_messages m) (closes m);
    reopens = λ m. on_this (λ m'. m' ≡ m) (reopening known s by_messages m) (reopens m);
    close_and_reopen = close_and_reopen;
    refusal = λ st n buffer e. record { says = refl; message_left = refl; form_left = refl; buffer_left = refl };
  }

pub every_call_means_what_it_says : EveryCallMeansWhatItSays
every_call_means_what_it_says = record { fills = fills; forms = forms }
