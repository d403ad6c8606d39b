-- The first field and the first group with a tag, as a search finds them.
use Rattle.std.proofs.Common.{◌≡◌, ℕ, ◌+◌, true, false, eqb, Bool, cond, MatchOption, List, [], ◌∷◌, Some, None, Option, Ok, Result, sym, refl, ap, subst, ◌∙◌, ⊎_elim, arith}
use Rattle.std.specs.Prelude.{⊤}
use Rattle.std.specs.List.{find}
use Rattle.std.specs.Iterator.{AlwaysYields, Yields}
use Rattle.std.specs.List.{FoldsTo}
use Rattle.std.specs.Fn.{CalledAt}
use denote.Ref.{Bor}
use denote.Param.Members.{Mut}
use Rattle.std.proofs.lemmas.Iterator.{YieldsList}
use Rattle.std.proofs.lemmas.Bool.Decides.{eqb_tells}
use Rattle.wire.specs.declared.refusal.Refusal.{Refusal}
use Rattle.schema.specs.Structure.{Field}
use Rattle.calls.specs.Changes.{lacking}
use Rattle.dictionary.specs.Shown.{shown_field}
use Rattle.lines.specs.declared.fields.SeenFields.{SeenFields}
use Rattle.lines.specs.Walks.{seen_fields_left, GivesSeenField}
use Rattle.places.specs.declared.place.GroupPlace.{GroupPlace}
use Rattle.places.specs.declared.groups.GroupPlaces.{GroupPlaces}
use Rattle.places.specs.Places.{PlacedField, PlacedGroup, field_at}
use Rattle.places.specs.Shown.{shown_group}
use Rattle.places.specs.Walks.{group_left, GivesGroupPlace}

always : (fs : List Field) (w : SeenFields) → seen_fields_left w ≡ fs → AlwaysYields GivesSeenField shown_field w fs
always [] w e = λ x j h.
    let no' : ◌≡◌ {A = List Field} (shown_field x ∷ seen_fields_left j) [] = sym h.0.0 ∙ e in
    let z : ◌≡◌ {A = ℕ} 0 1 = cc in
    absurd (omega arith)
always (f ∷ fs) w e = (
  λ j h.
      let no' : ◌≡◌ {A = List Field} (f ∷ fs) [] = sym e ∙ h.0.0 in
      let z : ◌≡◌ {A = ℕ} 0 1 = cc in
      absurd (omega arith),
  λ x j h.
      let same : ◌≡◌ {A = List Field} (shown_field x ∷ seen_fields_left j) (f ∷ fs) = sym h.0.0 ∙ e in
      let first : shown_field x ≡ f = cc in
      let others : seen_fields_left j ≡ fs = cc in
      (first, always fs j others),
)

pub seen_listed : (w : SeenFields) → YieldsList GivesSeenField shown_field w (seen_fields_left w)
seen_listed w = record { runs = always (seen_fields_left w) w refl }

-- the field that is found, at its place
abbrev pub placed : ℕ → ℕ → Option Field → Result PlacedField Refusal
placed base tag (Some f) = Ok (record { place = base + f.offset; field = f })
placed base tag None = lacking tag

pub first_placed : (base tag : ℕ) (fs : List Field) → field_at base fs tag ≡ placed base tag (find (λ f. eqb f.tag tag) fs)
first_placed base tag [] = refl
first_placed base tag (f ∷ fs) = ⊎_elim (λ a. rw a.0 refl) (λ a. rw a.0 (first_placed base tag fs)) (eqb_tells f.tag tag)

-- ---- groups

-- the group that is found, as it is seen at v
abbrev pub told : ℕ → Option GroupPlace → ℕ → Result PlacedGroup Refusal
told tag (Some x) v = Ok (shown_group v x)
told tag None v = lacking tag

module _ {F : Type 0} (g : Mut F (Bor GroupPlace × Unit {0}) Bool) (f : F) (tag : ℕ) (k : (x : GroupPlace) (b : Bool) (q : F) → CalledAt g f x b q → (q ≡ f) × (b ≡ eqb x.tag tag)) where
  pub group_found : (xs : List GroupPlace) (s t u : GroupPlaces) (p j : F) (r : Option GroupPlace) → p ≡ f → Yields GivesGroupPlace s xs t → GivesGroupPlace t r u → FoldsTo (λ o x q. CalledAt g o x false q) p xs j → MatchOption r ⊤ (λ x. (h : F) × CalledAt g j x true h) → group_left s tag ≡ told tag r s.version
  group_found [] s t u p j None e y a d m = ap (λ w. group_left w tag) y ∙ a.0 tag
  group_found [] s t u p j (Some x) e y a d (h, m) =
      let yes = (k x true h (subst (λ w. CalledAt g w x true h) (sym d ∙ e) m)).1 in
      ap (λ w. group_left w tag) y ∙ a.0 tag ∙ ap (λ b. cond b (Ok (shown_group t.version x)) (group_left u tag)) (sym yes) ∙ ap (λ w. told tag (Some x) w.version) (sym y)
  group_found (x ∷ xs) s t u p j r e (v, b, y) a (q, c, d) m =
      let no = k x false q (subst (λ w. CalledAt g w x false q) e c) in
      b.0 tag ∙ ap (λ o. cond o (Ok (shown_group s.version x)) (group_left v tag)) (sym no.1) ∙ group_found xs v t u q j r no.0 y a d m ∙ ap (told tag r) b.2
