-- Bytes cut into pieces, one behind the other: the pieces written out are cut into the same pieces, and back.
use Rattle.std.proofs.Common.{◌≡◌, ℕ, zero, suc, ◌+◌, ◌<◌, ◌≤◌, List, [], ◌∷◌, ◌++◌, map, length, drop, Some, None, Option, refl, ap, ◌∙◌, arith, length-append, length-drop}
use Rattle.std.specs.List.{flat_map, AllByRecursion}
use Rattle.std.proofs.lemmas.List.{drop_at}
use Rattle.std.proofs.ByRecursion.{All-drop}
use Rattle.wire.specs.Bytes.{Bytes}
use Rattle.schema.specs.Lines.{onward, there}

abbrev pub cut : {X : Type 0} → (List ℕ → Option X) → (X → ℕ) → ℕ → List ℕ → List (Option X)
cut first size zero s = []
cut first size (suc n) [] = []
cut first size (suc n) (b ∷ s) = onward (first (b ∷ s)) (λ x. cut first size n (drop (size x) (b ∷ s)))

-- no piece is missing
abbrev pub Whole : {X : Type 0} → List (Option X) → Type 0
Whole [] = Unit {0}
Whole (None ∷ xs) = ⊥
Whole (Some x ∷ xs) = Whole xs

pub whole_is : {X : Type 0} (xs : List (Option X)) → Whole xs → xs ≡ map Some (there xs)
whole_is [] h = refl
whole_is (None ∷ xs) h = absurd h
whole_is (Some x ∷ xs) h = ap (λ ys. Some x ∷ ys) (whole_is xs h)

pub there_map : {X : Type 0} (xs : List X) → there (map Some xs) ≡ xs
there_map [] = refl
there_map (x ∷ xs) = ap (λ ys. x ∷ ys) (there_map xs)

-- bytes begin with a piece that has room
abbrev pub Begins : {X : Type 0} → (X → List ℕ) → (X → ℕ) → (X → Type 0) → List ℕ → Option X → Type 0
Begins bytes size Fit s None = Unit {0}
Begins bytes size Fit s (Some x) = (bytes x ++ drop (size x) s ≡ s) × Fit x

-- what pieces owe, to be cut
pub record Form {X : Type 0} (first : List ℕ → Option X) (size : X → ℕ) (bytes : X → List ℕ) (Fit : X → Type 0) : Type 0 where
  pub long : (x : X) → length (bytes x) ≡ size x
  pub some : (x : X) → 1 ≤ size x
  pub reads : (x : X) (more : List ℕ) → Fit x → first (bytes x ++ more) ≡ Some x
  pub begins : (s : List ℕ) → Bytes s → Begins bytes size Fit s (first s)

-- bytes are those of pieces that have room
abbrev pub Made : {X : Type 0} → (X → List ℕ) → (X → Type 0) → List ℕ → List X → Type 0
Made bytes Fit s xs = (flat_map bytes xs ≡ s) × AllByRecursion Fit xs

module _ {X : Type 0} (first : List ℕ → Option X) (size : X → ℕ) (bytes : X → List ℕ) (Fit : X → Type 0) (form : Form first size bytes Fit) where
  cut_more : (n : ℕ) (s : List ℕ) (x : X) → 1 ≤ length s → first s ≡ Some x → cut first size (suc n) s ≡ Some x ∷ cut first size n (drop (size x) s)
  cut_more n [] x h e = absurd (omega arith)
  cut_more n (b ∷ s) x h e = ap (λ o. onward o (λ y. cut first size n (drop (size y) (b ∷ s)))) e

  pub cut_of : (xs : List X) (n : ℕ) → AllByRecursion Fit xs → length (flat_map bytes xs) ≤ n → cut first size n (flat_map bytes xs) ≡ map Some xs
  cut_of [] zero f h = refl
  cut_of [] (suc n) f h = refl
  cut_of (x ∷ xs) zero f h =
      let l = form.long x in
      let p = form.some x in
      let k : length (bytes x) + length (flat_map bytes xs) ≤ 0 = rw length-append at h in
      absurd (omega arith)
  cut_of (x ∷ xs) (suc n) f h =
      let l = form.long x in
      let p = form.some x in
      let k : length (bytes x) + length (flat_map bytes xs) ≤ suc n = rw length-append at h in
      cut_more n (bytes x ++ flat_map bytes xs) x (simp length-append (omega arith)) (form.reads x (flat_map bytes xs) f.0)
      ∙ ap (λ t. Some x ∷ cut first size n t) (drop_at (bytes x) (flat_map bytes xs) (size x) l)
      ∙ ap (λ ys. Some x ∷ ys) (cut_of xs n f.1 (omega arith))

  back_step : (n b : ℕ) (s : List ℕ) (o : Option X) → ((t : List ℕ) → Bytes t → length t ≤ n → Whole (cut first size n t) → Made bytes Fit t (there (cut first size n t))) → Bytes (b ∷ s) → length s ≤ n → Begins bytes size Fit (b ∷ s) o → Whole (onward o (λ x. cut first size n (drop (size x) (b ∷ s)))) → Made bytes Fit (b ∷ s) (there (onward o (λ x. cut first size n (drop (size x) (b ∷ s)))))
  back_step n b s None more k h g w = absurd w
  back_step n b s (Some x) more k h g w =
      let p = form.some x in
      let r = more (drop (size x) (b ∷ s)) (All-drop (λ y. y < 256) (size x) (b ∷ s) k) (simp length-drop (omega arith)) w in
      (ap (λ t. bytes x ++ t) r.0 ∙ g.0, (g.1, r.1))

  pub cut_back : (n : ℕ) (s : List ℕ) → Bytes s → length s ≤ n → Whole (cut first size n s) → Made bytes Fit s (there (cut first size n s))
  cut_back zero [] k h w = (refl, tt)
  cut_back zero (b ∷ s) k h w = absurd (omega arith)
  cut_back (suc n) [] k h w = (refl, tt)
  cut_back (suc n) (b ∷ s) k h w = back_step n b s (first (b ∷ s)) (cut_back n) k (omega arith) (form.begins (b ∷ s) k) w
