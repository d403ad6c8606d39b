-- The lines of two editions say the same of a message.
use Rattle.std.proofs.Common.{◌≡◌, ℕ, zero, suc, ◌≤◌, true, ◌⊎◌, List, [], ◌∷◌, ◌++◌, map, length, Some, None, Ok, Option, Result, sym, refl, ap, ◌∙◌, subst, ap₂, inl, inr, ⊎_elim, arith}
use Rattle.std.specs.List.{AllByRecursion}
use Rattle.std.proofs.ByRecursion.{All-weaker}
use Rattle.std.proofs.lemmas.Bool.{ne_eqb}
use Rattle.std.proofs.lemmas.Bool.Decides.{leb_tells, eqb_tells}
use Rattle.wire.specs.declared.refusal.Refusal.{Refusal}
use Rattle.wire.specs.Bytes.{Bytes}
use Rattle.types.specs.Meanings.{Meaning, absent}
use Rattle.types.specs.Kinds.{Known}
use Rattle.schema.specs.Structure.{Field, Block, Group, Data, Template}
use Rattle.schema.specs.Reading.{dictionary_of}
use Rattle.schema.specs.Seen.{seen_fields, seen_parts, seen_block, seen_group, seen_template, find}
use Rattle.schema.specs.WellFormed.{Distinct, outer_tags, GoodTemplate}
use Rattle.schema.specs.Editions.{EarlierEdition}
use Rattle.schema.specs.Laws.{PassesExactlyAsWrittenOut, Checked}
use Rattle.schema.proofs.EditionLaws.{found_at, find_seen, find_holds}
use Rattle.schema.proofs.EditionsAgree.{checked_is_well_formed}
use Rattle.message.specs.Blocks.{Filled}
use Rattle.message.specs.Frames.{Contents, Entries, Groups, Parts, Holds}
use Rattle.message.specs.Messages.{Message, slot_of, block_view, group_view, data_view, view_of, Closes}
use Rattle.message.specs.Lookup.{Reading, means, holds, not_found, of_field, of_root, lookup, answered, meaning_at, data_at, in_entries, in_groups, in_contents, in_template, message_reading}
use Rattle.message.specs.Laws.{NothingIn, EditionsSayTheSame}

-- ---- the first lines, and all of them

data Front {L : Type 0} : List L → List L → Type 0 where
  front : {ls : List L} → Front [] ls
  more : {k : L} {ks ls : List L} → Front ks ls → Front (k ∷ ks) (k ∷ ls)

fields_front : (v : ℕ) (fs : List Field) → Front (seen_fields v fs) fs
fields_front v [] = front
fields_front v (f ∷ fs) = ⊎_elim (λ a. rw a.0 (more (fields_front v fs))) (λ a. rw a.0 front) (leb_tells f.since v)

parts_front : (v : ℕ) (ds : List Data) → Front (seen_parts v ds) ds
parts_front v [] = front
parts_front v (d ∷ ds) = ⊎_elim (λ a. rw a.0 (more (parts_front v ds))) (λ a. rw a.0 front) (leb_tells d.since v)

front_length : {L : Type 0} {xs ys : List L} → Front xs ys → length xs ≤ length ys
front_length front = omega arith
front_length (more p) = let l = front_length p in omega arith

module _ {L X : Type 0} (tag_of : L → ℕ) (d : X) where
  past_all : (ls : List L) (tag : ℕ) (x : X) → lookup tag_of d ls [] tag ≡ Some x → x ≡ d
  past_all [] tag x e = let z : ◌≡◌ {A = ℕ} 0 1 = cc in absurd (omega arith)
  past_all (l ∷ ls) tag x e = ⊎_elim
      (λ a. let q : Some d ≡ Some x = rw a.0 at e in cc)
      (λ a. past_all ls tag x (rw a.0 at e))
      (eqb_tells (tag_of l) tag)

  -- all lines read what the first lines read
  lookup_on : {ks ls : List L} → Front ks ls → (xs : List X) (tag : ℕ) (x : X) → lookup tag_of d ks xs tag ≡ Some x → lookup tag_of d ls xs tag ≡ Some x
  lookup_on front xs tag x e = let z : ◌≡◌ {A = ℕ} 0 1 = cc in absurd (omega arith)
  lookup_on (more {k} {ks} {ls} p) [] tag x e = ⊎_elim
      (λ a. let q : Some d ≡ Some x = rw a.0 at e in rw a.0 q)
      (λ a. let q : lookup tag_of d ks [] tag ≡ Some x = rw a.0 at e in rw a.0 (lookup_on p [] tag x q))
      (eqb_tells (tag_of k) tag)
  lookup_on (more {k} {ks} {ls} p) (y ∷ xs) tag x e = ⊎_elim
      (λ a. let q : Some y ≡ Some x = rw a.0 at e in rw a.0 q)
      (λ a. let q : lookup tag_of d ks xs tag ≡ Some x = rw a.0 at e in rw a.0 (lookup_on p xs tag x q))
      (eqb_tells (tag_of k) tag)

  -- where there is nothing behind the first lines, the lines behind them read d
  lookup_back : {ks ls : List L} → Front ks ls → (xs : List X) → length xs ≤ length ks → (tag : ℕ) (x : X) → lookup tag_of d ls xs tag ≡ Some x → (lookup tag_of d ks xs tag ≡ Some x) ⊎ ((lookup tag_of d ks xs tag ≡ None) × (x ≡ d))
  lookup_back (front {ls}) [] l tag x e = inr (refl, past_all ls tag x e)
  lookup_back front (y ∷ xs) l tag x e = absurd (omega arith)
  lookup_back (more {k} {ks} {ls} p) [] l tag x e = ⊎_elim
      (λ a. let q : Some d ≡ Some x = rw a.0 at e in rw a.0 (inl q))
      (λ a. let q : lookup tag_of d ls [] tag ≡ Some x = rw a.0 at e in rw a.0 (lookup_back p [] (omega arith) tag x q))
      (eqb_tells (tag_of k) tag)
  lookup_back (more {k} {ks} {ls} p) (y ∷ xs) l tag x e = ⊎_elim
      (λ a. let q : Some y ≡ Some x = rw a.0 at e in rw a.0 (inl q))
      (λ a. let q : lookup tag_of d ls xs tag ≡ Some x = rw a.0 at e in rw a.0 (lookup_back p xs (omega arith) tag x q))
      (eqb_tells (tag_of k) tag)

  -- a tag that is found is one of the tags, and one that is none of them is not found
  among : (P : ℕ → Type 0) (ls : List L) (xs : List X) (tag : ℕ) (x : X) → AllByRecursion P (map tag_of ls) → lookup tag_of d ls xs tag ≡ Some x → P tag
  among P [] xs tag x h e = let z : ◌≡◌ {A = ℕ} 0 1 = cc in absurd (omega arith)
  among P (l ∷ ls) [] tag x h e = ⊎_elim (λ a. subst P a.1 h.0) (λ a. among P ls [] tag x h.1 (rw a.0 at e)) (eqb_tells (tag_of l) tag)
  among P (l ∷ ls) (y ∷ xs) tag x h e = ⊎_elim (λ a. subst P a.1 h.0) (λ a. among P ls xs tag x h.1 (rw a.0 at e)) (eqb_tells (tag_of l) tag)

  not_among : (ls : List L) (xs : List X) (tag : ℕ) → AllByRecursion (λ t. tag ≡ t → ⊥) (map tag_of ls) → lookup tag_of d ls xs tag ≡ None
  not_among [] xs tag h = refl
  not_among (l ∷ ls) [] tag h = rw (ne_eqb (tag_of l) tag (λ e. h.0 (sym e))) (not_among ls [] tag h.1)
  not_among (l ∷ ls) (y ∷ xs) tag h = rw (ne_eqb (tag_of l) tag (λ e. h.0 (sym e))) (not_among ls xs tag h.1)

all_right : {X : Type 0} (P : X → Type 0) (xs ys : List X) → AllByRecursion P (xs ++ ys) → AllByRecursion P ys
all_right P [] ys h = h
all_right P (x ∷ xs) ys h = all_right P xs ys h.1

apart : (xs ys : List ℕ) → Distinct (xs ++ ys) → AllByRecursion (λ t. AllByRecursion (λ u. u ≡ t → ⊥) ys) xs
apart [] ys h = tt
apart (x ∷ xs) ys h = (all_right (λ u. u ≡ x → ⊥) xs ys h.0.1, apart xs ys h.1)

-- a data's tag is no field's
pub no_field : (t : Template) → Distinct (outer_tags t) → (xs : List (List ℕ)) (ms : List Meaning) (tag : ℕ) (x : List ℕ) → data_at t.parts xs tag ≡ Some x → lookup (λ f. f.tag) absent t.root.fields ms tag ≡ None
no_field t h xs ms tag x e =
    let fields = map (λ f. f.tag) t.root.fields in
    let groups = map (λ g. g.tag) t.groups in
    let parts = map (λ d. d.tag) t.parts in
    not_among (λ f. f.tag) absent t.root.fields ms tag
    (All-weaker (λ u. AllByRecursion (λ w. w ≡ u → ⊥) (groups ++ parts)) (λ u. tag ≡ u → ⊥)
    (λ u k. among (λ d. d.tag) [] (λ w. w ≡ u → ⊥) t.parts xs tag x (all_right (λ w. w ≡ u → ⊥) groups parts k) e)
    fields (apart fields (groups ++ parts) h))

-- ---- what an answer that is not refused says

field_says : (o : Option Meaning) (tag : ℕ) (r : Reading) → of_field (answered o) tag ≡ Ok r → (m : Meaning) × ((o ≡ Some m) × (r ≡ means m))
field_says None tag r e = let z : ◌≡◌ {A = ℕ} 0 1 = cc in absurd (omega arith)
field_says (Some m) tag r e = (m, (refl, cc))

-- a field says it, or else a data
root_says : (o : Option Meaning) (x : Option (List ℕ)) (tag : ℕ) (r : Reading) → of_root (answered o) x tag ≡ Ok r → ((m : Meaning) × ((o ≡ Some m) × (r ≡ means m))) ⊎ ((y : List ℕ) × ((o ≡ None) × ((x ≡ Some y) × (r ≡ holds y))))
root_says None None tag r e = let z : ◌≡◌ {A = ℕ} 0 1 = cc in absurd (omega arith)
root_says None (Some y) tag r e = inr (y, (refl, (refl, cc)))
root_says (Some m) x tag r e = inl (m, (refl, cc))

-- ---- from the earlier edition's lines to the later one's

module _ (v : ℕ) where
  entries_on : (fs : List Field) (es : List (List Meaning)) (group entry tag : ℕ) (r : Reading) → in_entries (seen_fields v fs) es group entry tag ≡ Ok r → in_entries fs es group entry tag ≡ Ok r
  entries_on fs [] group entry tag r e = e
  entries_on fs (ms ∷ es) group zero tag r e =
      let k = field_says (lookup (λ f. f.tag) absent (seen_fields v fs) ms tag) tag r e in
      ap (λ o. of_field (answered o) tag) (lookup_on (λ f. f.tag) absent (fields_front v fs) ms tag k.0 k.1.0) ∙ ap Ok (sym k.1.1)
  entries_on fs (ms ∷ es) group (suc entry) tag r e = entries_on fs es group entry tag r e

  groups_on : (gs : List Group) (ess : List (List (List Meaning))) (group entry tag : ℕ) (r : Reading) → in_groups (map (seen_group v) gs) ess group entry tag ≡ Ok r → in_groups gs ess group entry tag ≡ Ok r
  groups_on [] ess group entry tag r e = e
  groups_on (g ∷ gs) [] group entry tag r e = e
  groups_on (g ∷ gs) (es ∷ ess) group entry tag r e = ⊎_elim
      (λ a. rw a.0 (entries_on g.block.fields es group entry tag r (rw a.0 at e)))
      (λ a. rw a.0 (groups_on gs ess group entry tag r (rw a.0 at e)))
      (eqb_tells g.tag group)

  root_on : (t : Template) → Distinct (outer_tags t) → (ms : List Meaning) (xs : List (List ℕ)) (tag : ℕ) (r : Reading) →
      of_root (meaning_at (seen_fields v t.root.fields) ms tag) (data_at (seen_parts v t.parts) xs tag) tag ≡ Ok r → of_root (meaning_at t.root.fields ms tag) (data_at t.parts xs tag) tag ≡ Ok r
  root_on t h ms xs tag r e = ⊎_elim
      (λ k. ap (λ o. of_root (answered o) (data_at t.parts xs tag) tag) (lookup_on (λ f. f.tag) absent (fields_front v t.root.fields) ms tag k.0 k.1.0) ∙ ap Ok (sym k.1.1))
      (λ k.
      let there = lookup_on (λ d. d.tag) [] (parts_front v t.parts) xs tag k.0 k.1.1.0 in
      ap₂ (λ o x. of_root (answered o) x tag) (no_field t h xs ms tag k.0 there) there ∙ ap Ok (sym k.1.1.1))
      (root_says (lookup (λ f. f.tag) absent (seen_fields v t.root.fields) ms tag) (data_at (seen_parts v t.parts) xs tag) tag r e)

  contents_on : (t : Template) → Distinct (outer_tags t) → (c : Contents) (group entry tag : ℕ) (r : Reading) → in_contents (seen_template v t) c group entry tag ≡ Ok r → in_contents t c group entry tag ≡ Ok r
  contents_on t h c group entry tag r e = ⊎_elim
      (λ a. ⊎_elim
      (λ b. rw (a.0, b.0) (root_on t h c.root c.parts tag r (rw (a.0, b.0) at e)))
      (λ b. let q : not_found 0 ≡ Ok r = rw (a.0, b.0) at e in let z : ◌≡◌ {A = ℕ} 0 1 = cc in absurd (omega arith))
      (eqb_tells entry 0))
      (λ a. rw a.0 (groups_on t.groups c.groups group entry tag r (rw a.0 at e)))
      (eqb_tells group 0)

-- ---- from the later edition's lines back to the earlier one's

-- what none of all lines has, none of the first lines has
none_in_front : {L X : Type 0} (tag_of : L → ℕ) (d : X) {ks ls : List L} → Front ks ls → (xs : List X) (tag : ℕ) → lookup tag_of d ls xs tag ≡ None → lookup tag_of d ks xs tag ≡ None
none_in_front {X = X} tag_of d {ks} {ls} p xs tag e = by (lookup tag_of d ks xs tag) refl
  where
    by : (o : Option X) → lookup tag_of d ks xs tag ≡ o → lookup tag_of d ks xs tag ≡ None
    by None q = q
    by (Some x) q = let k = lookup_on tag_of d p xs tag x q in let z : ◌≡◌ {A = ℕ} 0 1 = cc in absurd (omega arith)

-- the earlier edition's answer, beside one that the later edition's lines give
abbrev Says : Result Reading Refusal → ℕ → Reading → Type 0
Says answer tag r = (answer ≡ Ok r) ⊎ ((answer ≡ not_found tag) × NothingIn r)

module _ (known : Known) (u v : ℕ) where
  filled_length : (fs : List Field) (ms : List Meaning) → Filled (map (slot_of known) fs) ms → length ms ≡ length fs
  filled_length [] [] k = refl
  filled_length [] (m ∷ ms) k = absurd k
  filled_length (f ∷ fs) [] k = absurd k
  filled_length (f ∷ fs) (m ∷ ms) k = ap suc (filled_length fs ms k.1)

  parts_length : (ds : List Data) (xs : List (List ℕ)) → Parts (map data_view ds) xs → length xs ≡ length ds
  parts_length [] [] k = refl
  parts_length [] (x ∷ xs) k = absurd k
  parts_length (d ∷ ds) [] k = absurd k
  parts_length (d ∷ ds) (x ∷ xs) k = ap suc (parts_length ds xs k.2)

  -- a message has no more meanings than the earlier edition has fields
  no_longer : (fs : List Field) (ms : List Meaning) → Filled (map (slot_of known) (seen_fields u (seen_fields v fs))) ms → length ms ≤ length (seen_fields v fs)
  no_longer fs ms k =
      let e = filled_length (seen_fields u (seen_fields v fs)) ms k in
      let l = front_length (fields_front u (seen_fields v fs)) in
      omega arith

  entries_back : (b : Block) (es : List (List Meaning)) (group entry tag : ℕ) (r : Reading) → Entries true (block_view known (seen_block u (seen_block v b))) es → in_entries b.fields es group entry tag ≡ Ok r → Says (in_entries (seen_fields v b.fields) es group entry tag) tag r
  entries_back b [] group entry tag r h e = let z : ◌≡◌ {A = ℕ} 0 1 = cc in absurd (omega arith)
  entries_back b (ms ∷ es) group zero tag r h e =
      let k = field_says (lookup (λ f. f.tag) absent b.fields ms tag) tag r e in
      ⊎_elim
      (λ a. inl (ap (λ o. of_field (answered o) tag) a ∙ ap Ok (sym k.1.1)))
      (λ a. inr (ap (λ o. of_field (answered o) tag) a.0, subst NothingIn (sym k.1.1) a.1))
      (lookup_back (λ f. f.tag) absent (fields_front v b.fields) ms (no_longer b.fields ms h.0.0) tag k.0 k.1.0)
  entries_back b (ms ∷ es) group (suc entry) tag r h e = entries_back b es group entry tag r h.1 e

  groups_back : (gs : List Group) (ess : List (List (List Meaning))) (group entry tag : ℕ) (r : Reading) → Groups true (map (group_view known) (map (seen_group u) (map (seen_group v) gs))) ess → in_groups gs ess group entry tag ≡ Ok r → Says (in_groups (map (seen_group v) gs) ess group entry tag) tag r
  groups_back [] ess group entry tag r h e = let z : ◌≡◌ {A = ℕ} 0 1 = cc in absurd (omega arith)
  groups_back (g ∷ gs) [] group entry tag r h e = absurd h
  groups_back (g ∷ gs) (es ∷ ess) group entry tag r h e = ⊎_elim
      (λ a. rw a.0 (entries_back g.block es group entry tag r h.1 (rw a.0 at e)))
      (λ a. rw a.0 (groups_back gs ess group entry tag r h.2 (rw a.0 at e)))
      (eqb_tells g.tag group)

  root_back : (t : Template) → Distinct (outer_tags t) → (c : Contents) (tag : ℕ) (r : Reading) → Holds true (view_of known (seen_template u (seen_template v t))) c →
      of_root (meaning_at t.root.fields c.root tag) (data_at t.parts c.parts tag) tag ≡ Ok r →
      Says (of_root (meaning_at (seen_fields v t.root.fields) c.root tag) (data_at (seen_parts v t.parts) c.parts tag) tag) tag r
  root_back t d c tag r h e =
      let fs = t.root.fields in
      let ds = t.parts in
      let fields = fields_front v fs in
      let parts = parts_front v ds in
      let few = no_longer fs c.root h.root.0 in
      let same = parts_length (seen_parts u (seen_parts v ds)) c.parts h.parts in
      let fewer = front_length (parts_front u (seen_parts v ds)) in
      ⊎_elim
      (λ k. ⊎_elim
      (λ a. inl (ap (λ o. of_root (answered o) (data_at (seen_parts v ds) c.parts tag) tag) a ∙ ap Ok (sym k.1.1)))
      (λ a. inr (ap₂ (λ o x. of_root (answered o) x tag) a.0 (no_part k.0 k.1.0), subst NothingIn (sym k.1.1) a.1))
      (lookup_back (λ f. f.tag) absent fields c.root few tag k.0 k.1.0))
      (λ k.
      let none = none_in_front (λ f. f.tag) absent fields c.root tag k.1.0 in
      ⊎_elim
      (λ a. inl (ap₂ (λ o x. of_root (answered o) x tag) none a ∙ ap Ok (sym k.1.1.1)))
      (λ a. inr (ap₂ (λ o x. of_root (answered o) x tag) none a.0, subst NothingIn (sym k.1.1.1) a.1))
      (lookup_back (λ d. d.tag) [] parts c.parts (omega arith) tag k.0 k.1.1.0))
      (root_says (lookup (λ f. f.tag) absent fs c.root tag) (data_at ds c.parts tag) tag r e)
    where
      -- a field's tag is no data's
      no_part : (m : Meaning) → lookup (λ f. f.tag) absent t.root.fields c.root tag ≡ Some m → data_at (seen_parts v t.parts) c.parts tag ≡ None
      no_part m e = by (data_at (seen_parts v t.parts) c.parts tag) refl
        where
          by : (o : Option (List ℕ)) → data_at (seen_parts v t.parts) c.parts tag ≡ o → data_at (seen_parts v t.parts) c.parts tag ≡ None
          by None q = q
          by (Some x) q =
              let k = no_field t d c.parts c.root tag x (lookup_on (λ d. d.tag) [] (parts_front v t.parts) c.parts tag x q) in
              let z : ◌≡◌ {A = ℕ} 0 1 = cc in absurd (omega arith)

  contents_back : (t : Template) → Distinct (outer_tags t) → (c : Contents) (group entry tag : ℕ) (r : Reading) → Holds true (view_of known (seen_template u (seen_template v t))) c → in_contents t c group entry tag ≡ Ok r → Says (in_contents (seen_template v t) c group entry tag) tag r
  contents_back t d c group entry tag r h e = ⊎_elim
      (λ a. ⊎_elim
      (λ b. rw (a.0, b.0) (root_back t d c tag r h (rw (a.0, b.0) at e)))
      (λ b. let q : not_found 0 ≡ Ok r = rw (a.0, b.0) at e in let z : ◌≡◌ {A = ℕ} 0 1 = cc in absurd (omega arith))
      (eqb_tells entry 0))
      (λ a. rw a.0 (groups_back t.groups c.groups group entry tag r h.groups (rw a.0 at e)))
      (eqb_tells group 0)

-- ---- editions

-- a template that is there at a version, and the whole of it
found_says : (v : ℕ) (o : Option Template) (t : Template) → found_at v o ≡ Some t → (w : Template) × ((o ≡ Some w) × (t ≡ seen_template v w))
found_says v None t e = let z : ◌≡◌ {A = ℕ} 0 1 = cc in absurd (omega arith)
found_says v (Some w) t e = ⊎_elim
    (λ a. let q : Some (seen_template v w) ≡ Some t = rw a.0 at e in let k : seen_template v w ≡ t = cc in (w, (refl, sym k)))
    (λ a. let q : None ≡ Some t = rw a.0 at e in let z : ◌≡◌ {A = ℕ} 0 1 = cc in absurd (omega arith))
    (leb_tells w.since v)

module _ (known : Known) (exact : (s : List ℕ) → Bytes s → PassesExactlyAsWrittenOut known s) (e d : List ℕ) (ce : Checked known e) (cd : Checked known d) (x : EarlierEdition (dictionary_of e) (dictionary_of d)) where
  -- a template of the earlier edition is what was seen at its version of the later one's
  pub later_has : (n : ℕ) (t : Template) → find n (dictionary_of e).templates ≡ Some t → (w : Template) × ((find n (dictionary_of d).templates ≡ Some w) × (t ≡ seen_template (dictionary_of e).version w))
  later_has n t f =
      let v = (dictionary_of e).version in
      let ts = (dictionary_of d).templates in
      let numbers = (checked_is_well_formed known exact d cd).numbers in
      found_says v (find n ts) t (sym (find_seen v n 0 ts numbers) ∙ ap (find n) x.templates ∙ f)

  tags_differ : (n : ℕ) (w : Template) → find n (dictionary_of d).templates ≡ Some w → Distinct (outer_tags w)
  tags_differ n w f =
      let well = checked_is_well_formed known exact d cd in
      (find_holds (GoodTemplate known (dictionary_of d).version) n (dictionary_of d).templates w well.templates f).0.tags

  later_says_it : (m : Message) (t : Template) → find m.template (dictionary_of e).templates ≡ Some t → (group entry tag : ℕ) (r : Reading) → message_reading (dictionary_of e) m group entry tag ≡ Ok r → message_reading (dictionary_of d) m group entry tag ≡ Ok r
  later_says_it m t f group entry tag r q =
      let v = (dictionary_of e).version in
      let k = later_has m.template t f in
      let w = k.0 in
      let has : find m.template (dictionary_of e).templates ≡ Some (seen_template v w) = f ∙ ap Some k.1.1 in
      let mine : in_contents (seen_template v w) m.contents group entry tag ≡ Ok r = ap (λ o. in_template o m.contents group entry tag) (sym has) ∙ q in
      ap (λ o. in_template o m.contents group entry tag) k.1.0
      ∙ contents_on v w (tags_differ m.template w k.1.0) m.contents group entry tag r mine

  nothing_more : (m : Message) → Closes known (dictionary_of e) m → (group entry tag : ℕ) (r : Reading) → message_reading (dictionary_of d) m group entry tag ≡ Ok r → Says (message_reading (dictionary_of e) m group entry tag) tag r
  nothing_more m h group entry tag r q =
      let v = (dictionary_of e).version in
      let u = m.version in
      let numbers = (checked_is_well_formed known exact e ce).numbers in
      let own = found_says u (find m.template (dictionary_of e).templates) h.template (sym (find_seen u m.template 0 (dictionary_of e).templates numbers) ∙ h.found) in
      let k = later_has m.template own.0 own.1.0 in
      let w = k.0 in
      let has : find m.template (dictionary_of e).templates ≡ Some (seen_template v w) = own.1.0 ∙ ap Some k.1.1 in
      let is : h.template ≡ seen_template u (seen_template v w) = own.1.1 ∙ ap (seen_template u) k.1.1 in
      let right : Holds true (view_of known (seen_template u (seen_template v w))) m.contents = subst (λ t. Holds true (view_of known t) m.contents) is h.right in
      let theirs : in_contents w m.contents group entry tag ≡ Ok r = ap (λ o. in_template o m.contents group entry tag) (sym k.1.0) ∙ q in
      subst (λ a. Says a tag r) (ap (λ o. in_template o m.contents group entry tag) (sym has))
      (contents_back known u v w (tags_differ m.template w k.1.0) m.contents group entry tag r right theirs)

  pub editions_say_the_same : EditionsSayTheSame known e d
  editions_say_the_same = record { later_says_it = later_says_it; nothing_more = nothing_more }
