-- A walk that passes by what is not sought.
use Rattle.std.proofs.Common.{◌≡◌, ℕ, ◌+◌, ◌≤◌, List, [], ◌∷◌, length, Some, None, Option, MatchOption, sym, ap, ◌∙◌, subst, arith}
use Rattle.std.specs.Iterator.{Yields}
use Rattle.std.specs.List.{FoldsTo}
use Rattle.dictionary.specs.Walks.{Gives}

-- what is sifted of a list, where each that is passed by is sifted out: the walk behind them has the same, and no more bytes
module _ {S A X Y F : Type 0} (steps : S → Option A → S → Type 0) (shown : A → X) (bytes : S → List ℕ) (left : S → List X) (sift : List X → List Y) (R : F → A → F → Type 0) (f : F)
    (gives : (w : S) (x : A) (w' : S) → steps w (Some x) w' → (left w ≡ shown x ∷ left w') × (length (bytes w') ≤ length (bytes w)))
    (passes : (x : A) (q : F) → R f x q → (q ≡ f) × ((xs : List X) → sift (shown x ∷ xs) ≡ sift xs)) where
  pub skips : (xs : List A) (s t : S) (j : F) → Yields steps s xs t → FoldsTo R f xs j → (j ≡ f) × (sift (left s) ≡ sift (left t)) × (length (bytes t) ≤ length (bytes s))
  skips [] s t j y c = (sym c, ap (λ w. sift (left w)) y, let e = ap (λ w. length (bytes w)) y in omega arith)
  skips (x ∷ xs) s t j y c =
      let step = gives s x y.0 y.1 in
      let pass = passes x c.0 c.1 in
      let more = skips xs y.0 t j y.2 (subst (λ k. FoldsTo R k xs j) pass.0 c.2) in
      (more.0, ap sift step.0 ∙ pass.1 (left y.0) ∙ more.1, omega (arith, step.1, more.2))

-- a step, said case by case
pub as_gives : {W A X : Type 0} (takes : A → ℕ) (shown : A → X) (bytes : W → List ℕ) (left : W → List X) (w : W) (r : Option A) (w' : W)
    → MatchOption r ((left w ≡ []) × (left w' ≡ [])) (λ x. (left w ≡ shown x ∷ left w') × (length (bytes w') + takes x ≤ length (bytes w))) → Gives takes shown bytes left w r w'
as_gives takes shown bytes left w None w' h = h
as_gives takes shown bytes left w (Some x) w' h = h
