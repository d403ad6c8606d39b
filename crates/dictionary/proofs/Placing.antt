-- A walk over templates with their places that passes by those of another number or a later version.
use Rattle.std.proofs.Common.{◌≡◌, ℕ, ◌+◌, ◌≤◌, Bool, true, false, cond, ◌&&◌, eqb, nat_le, List, [], ◌∷◌, Some, None, Option, MatchOption, sym, ap, ◌∙◌, subst, arith}
use Rattle.std.specs.Prelude.{⊤}
use Rattle.std.specs.Iterator.{Yields}
use Rattle.std.specs.List.{FoldsTo}
use Rattle.schema.specs.Sections.{section_size}
use Rattle.schema.specs.Finding.{PlacedSection, section_at}
use Rattle.dictionary.specs.declared.found.Found.{Found}
use Rattle.dictionary.specs.declared.placed.PlacedSections.{PlacedSections}
use Rattle.dictionary.specs.Walks.{sections_left}
use Rattle.dictionary.specs.Shown.{shown_section}
use Rattle.dictionary.specs.Found.{shown_found}
use Rattle.dictionary.specs.Placed.{GivesFound, end_of}

module _ (number version : ℕ) where
  abbrev pub wanted : Found → Bool
  wanted x = nat_le x.section.since version && eqb x.section.number number

  -- the template that is found from here on
  abbrev pub found_from : PlacedSections → Option PlacedSection
  found_from w = section_at number version w.place (sections_left w.sections)

  first : (x : Found) (w w' : PlacedSections) (b : Bool) → wanted x ≡ b → GivesFound w (Some x) w' → found_from w ≡ cond b (shown_found (Some x)) (found_from w')
  first x w w' b e h =
      ap (section_at number version w.place) h.1
      ∙ ap (λ k. cond k (Some (record { place = w.place; section = shown_section x.section })) (section_at number version (w.place + section_size (shown_section x.section)) (sections_left w'.sections))) e
      ∙ ap (λ p. cond b (Some (record { place = p; section = shown_section x.section })) (section_at number version (w.place + section_size (shown_section x.section)) (sections_left w'.sections))) (sym h.0)
      ∙ ap (λ p. cond b (shown_found (Some x)) (section_at number version p (sections_left w'.sections))) (sym h.2)

  module _ {F : Type 0} (R : F → Found → F → Type 0) (f : F) (passes : (x : Found) (q : F) → R f x q → (q ≡ f) × (wanted x ≡ false)) where
    pub passed : (xs : List Found) (s t : PlacedSections) (j : F) → Yields GivesFound s xs t → FoldsTo R f xs j → (j ≡ f) × (found_from s ≡ found_from t) × (end_of t ≤ end_of s)
    passed [] s t j y c = (sym c, ap found_from y, let e = ap end_of y in omega arith)
    passed (x ∷ xs) s t j y c =
        let pass = passes x c.0 c.1 in
        let more = passed xs y.0 t j y.2 (subst (λ k. FoldsTo R k xs j) pass.0 c.2) in
        (more.0, first x s y.0 false pass.1 y.1 ∙ more.1, omega (arith, y.1.3, more.2))

  pub stopped : (t u : PlacedSections) (r : Option Found) (P : Found → Type 0) → ((x : Found) → P x → wanted x ≡ true) → GivesFound t r u → MatchOption r ⊤ P → (shown_found r ≡ found_from t) × MatchOption r ⊤ (λ x. x.place + section_size (shown_section x.section) ≤ end_of t)
  stopped t u None P k h p = (sym (ap (section_at number version t.place) h.0), p)
  stopped t u (Some x) P k h p = (sym (first x t u true (k x p) h), omega (arith, h.0, h.2, h.3))
