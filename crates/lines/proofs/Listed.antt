-- The walk over the fields of a block, as the list of them.
use Rattle.std.proofs.Common.{◌≡◌, ℕ, Bool, true, false, cond, nat_le, nat_lt, List, [], ◌∷◌, Some, None, Option, MatchOption, sym, refl, ap, ◌∙◌, arith}
use Rattle.std.proofs.lemmas.Bool.{le-leb, ltb-false, ltb-true}
use Rattle.std.proofs.lemmas.Bool.Decides.{leb_tells}
use Rattle.std.specs.List.{find}
use Rattle.std.specs.Option.{option_map}
use Rattle.std.specs.Iterator.{AlwaysYields}
use Rattle.std.proofs.lemmas.Iterator.{YieldsList}
use Rattle.schema.specs.Structure.{Field}
use Rattle.schema.specs.Seen.{length_at}
use Rattle.dictionary.specs.Shown.{shown_field}
use Rattle.lines.specs.declared.fields.Fields.{Fields}
use Rattle.lines.specs.Walks.{fields_left, GivesField}

always : (fs : List Field) (w : Fields) → fields_left w ≡ fs → AlwaysYields GivesField shown_field w fs
always [] w e = λ x j h.
    let no' : ◌≡◌ {A = List Field} (shown_field x ∷ fields_left j) [] = sym h.0 ∙ e in
    let z : ◌≡◌ {A = ℕ} 0 1 = cc in
    absurd (omega arith)
always (f ∷ fs) w e = (
  λ j h.
      let no' : ◌≡◌ {A = List Field} (f ∷ fs) [] = sym e ∙ h.0 in
      let z : ◌≡◌ {A = ℕ} 0 1 = cc in
      absurd (omega arith),
  λ x j h.
      let same : ◌≡◌ {A = List Field} (shown_field x ∷ fields_left j) (f ∷ fs) = sym h.0 ∙ e in
      let first : shown_field x ≡ f = cc in
      let others : fields_left j ≡ fs = cc in
      (first, always fs j others),
)

pub fields_listed : (w : Fields) → YieldsList GivesField shown_field w (fields_left w)
fields_listed w = record { runs = always (fields_left w) w refl }

-- the offset of the first field that is newer, or else the size
abbrev pub offset_or : ℕ → Option Field → ℕ
offset_or size None = size
offset_or size (Some f) = f.offset

module _ (v size : ℕ) where
  newer_or_not : (f : Field) (fs : List Field) (b : Bool) → nat_lt v f.since ≡ b → offset_or size (find (λ x. nat_lt v x.since) fs) ≡ length_at v size fs
      → offset_or size (cond b (Some f) (find (λ x. nat_lt v x.since) fs)) ≡ cond (nat_le f.since v) (length_at v size fs) f.offset
  newer_or_not f fs true e k = let t : nat_le f.since v ≡ false = grind (arith, leb_tells f.since v, ltb-true v f.since e) in sym (ap (λ b. cond b (length_at v size fs) f.offset) t)
  newer_or_not f fs false e k = let t : nat_le f.since v ≡ true = le-leb f.since v (ltb-false v f.since e) in k ∙ sym (ap (λ b. cond b (length_at v size fs) f.offset) t)

  pub first_newer : (fs : List Field) → offset_or size (find (λ x. nat_lt v x.since) fs) ≡ length_at v size fs
  first_newer [] = refl
  first_newer (f ∷ fs) = newer_or_not f fs (nat_lt v f.since) refl (first_newer fs)

-- the offset of what is found, or else the size, as the call tells it
pub offset_told : {A : Type 0} (r : Option A) (n size : ℕ) (shown : A → Field) (P : A → Type 0) → ((x : A) → P x → n ≡ (shown x).offset) → MatchOption r (n ≡ size) P → n ≡ offset_or size (option_map shown r)
offset_told None n size shown P k h = h
offset_told (Some x) n size shown P k h = k x h
