-- Bytes cut into pieces, one after the other: the same argument for lines and for sections.
use Rattle.std.proofs.Common.{◌≡◌, ℕ, zero, suc, ◌+◌, ◌-◌, ◌<◌, ◌≤◌, List, [], ◌∷◌, ◌++◌, map, length, take, drop, Some, None, Option, sym, refl, ap, ◌∙◌, arith, length-append, length-drop, take-add}
use Rattle.std.proofs.lemmas.List.{drop_all, drop-drop, drop-append-le, length-take-le}
use Rattle.schema.specs.Lines.{onward, there}

pub onward_same : {X : Type 0} (o : Option X) (g h : X → List (Option X)) → ((x : X) → o ≡ Some x → g x ≡ h x) → onward o g ≡ onward o h
onward_same None g h e = refl
onward_same (Some x) g h e = ap (λ xs. Some x ∷ xs) (e x refl)

-- pieces, with so many turns at most
abbrev pub pieces_from : {X : Type 0} (first : List ℕ → Option X) (size : X → ℕ) → ℕ → List ℕ → List (Option X)
pieces_from first size zero s = []
pieces_from first size (suc n) [] = []
pieces_from first size (suc n) (b ∷ s) = onward (first (b ∷ s)) (λ x. pieces_from first size n (drop (size x) (b ∷ s)))

-- a first piece has bytes, and no more than there are; what follows does not change it, and is not needed
pub record Cutting {X : Type 0} (first : List ℕ → Option X) (size : X → ℕ) : Type 0 where
  pub some : (s : List ℕ) (x : X) → first s ≡ Some x → 1 ≤ size x
  pub within : (s : List ℕ) (x : X) → first s ≡ Some x → size x ≤ length s
  pub stays : (s more : List ℕ) (x : X) → first s ≡ Some x → first (s ++ more) ≡ Some x
  pub alone : (s : List ℕ) (x : X) → first s ≡ Some x → first (take (size x) s) ≡ Some x

module _ {X : Type 0} (first : List ℕ → Option X) (size : X → ℕ) (cutting : Cutting first size) where
  -- turns enough are enough
  pub enough : (n m : ℕ) (s : List ℕ) → length s ≤ n → length s ≤ m → pieces_from first size n s ≡ pieces_from first size m s
  enough zero zero s p q = refl
  enough zero (suc m) [] p q = refl
  enough zero (suc m) (b ∷ s) p q = absurd (omega arith)
  enough (suc n) zero [] p q = refl
  enough (suc n) zero (b ∷ s) p q = absurd (omega arith)
  enough (suc n) (suc m) [] p q = refl
  enough (suc n) (suc m) (b ∷ s) p q =
      onward_same (first (b ∷ s)) (λ x. pieces_from first size n (drop (size x) (b ∷ s))) (λ x. pieces_from first size m (drop (size x) (b ∷ s)))
      (λ x e.
      let least = cutting.some (b ∷ s) x e in
      let long : length (drop (size x) (b ∷ s)) ≡ suc (length s) - size x = length-drop (size x) (b ∷ s) in
      enough n m (drop (size x) (b ∷ s)) (omega arith) (omega arith))

-- a cutting of bytes into pieces, by its two equations
pub record Pieces {X : Type 0} (first : List ℕ → Option X) (size : X → ℕ) (f : List ℕ → List (Option X)) : Type 0 where
  pub cutting : Cutting first size
  pub none : f [] ≡ []
  pub step : (s : List ℕ) → 0 < length s → f s ≡ onward (first s) (λ x. f (drop (size x) s))

module _ {X : Type 0} (first : List ℕ → Option X) (size : X → ℕ) (f : List ℕ → List (Option X)) (p : Pieces first size f) where
  -- from a place on: a piece, no piece, or the end
  pub at_piece : (s : List ℕ) (i : ℕ) (x : X) → i < length s → first (drop i s) ≡ Some x → f (drop i s) ≡ Some x ∷ f (drop (i + size x) s)
  at_piece s i x h e =
      let long : length (drop i s) ≡ length s - i = length-drop i s in
      p.step (drop i s) (omega arith)
      ∙ ap (λ o. onward o (λ y. f (drop (size y) (drop i s)))) e
      ∙ ap (λ t. Some x ∷ f t) (drop-drop (size x) i s)

  pub at_no_piece : (s : List ℕ) (i : ℕ) → i < length s → first (drop i s) ≡ None → f (drop i s) ≡ None ∷ []
  at_no_piece s i h e =
      let long : length (drop i s) ≡ length s - i = length-drop i s in
      p.step (drop i s) (omega arith)
      ∙ ap (λ o. onward o (λ y. f (drop (size y) (drop i s)))) e

  pub at_end : (s : List ℕ) (i : ℕ) → length s ≤ i → f (drop i s) ≡ []
  at_end s i h = ap f (drop_all i s h) ∙ p.none

  -- the place behind a piece is within the bytes
  pub behind_piece : (s : List ℕ) (i : ℕ) (x : X) → i < length s → first (drop i s) ≡ Some x → (i + size x ≤ length s) × (i < i + size x)
  behind_piece s i x h e =
      let long : length (drop i s) ≡ length s - i = length-drop i s in
      let a = p.cutting.within (drop i s) x e in
      let b = p.cutting.some (drop i s) x e in
      (omega arith, omega arith)

-- there is a piece wherever one is looked for
abbrev pub AllThere : {X : Type 0} → List (Option X) → Type 0
AllThere xs = xs ≡ map Some (there xs)

there_all : {X : Type 0} (ys : List X) → there (map Some ys) ≡ ys
there_all [] = refl
there_all (y ∷ ys) = ap (λ zs. y ∷ zs) (there_all ys)

some_push : {X : Type 0} (ys : List X) (x : X) → map Some ys ++ (Some x ∷ []) ≡ map Some (ys ++ (x ∷ []))
some_push [] x = refl
some_push (y ∷ ys) x = ap (λ zs. Some y ∷ zs) (some_push ys x)

-- one piece more
pub there_push : {X : Type 0} (xs : List (Option X)) (x : X) → AllThere xs → there (xs ++ (Some x ∷ [])) ≡ there xs ++ (x ∷ [])
there_push xs x h =
    ap (λ zs. there (zs ++ (Some x ∷ []))) h
    ∙ ap there (some_push (there xs) x)
    ∙ there_all (there xs ++ (x ∷ []))

pub all_there_push : {X : Type 0} (xs : List (Option X)) (x : X) → AllThere xs → AllThere (xs ++ (Some x ∷ []))
all_there_push xs x h =
    ap (λ zs. zs ++ (Some x ∷ [])) h
    ∙ some_push (there xs) x
    ∙ ap (map Some) (sym (there_push xs x h))

rest_there : {X : Type 0} (x : X) (xs ys : List (Option X)) → ys ≡ Some x ∷ xs → AllThere ys → AllThere xs
rest_there x xs ys e h =
    let both : Some x ∷ xs ≡ Some x ∷ map Some (there xs) = sym e ∙ h ∙ ap (λ zs. map Some (there zs)) e in
    cc

none_there : {X : Type 0} (ys : List (Option X)) → ys ≡ None ∷ [] → AllThere ys → ⊥
none_there {X} ys e h =
    let both : ◌≡◌ {A = List (Option X)} (None ∷ []) [] = sym e ∙ h ∙ ap (λ zs. map Some (there zs)) e in
    let z : ◌≡◌ {A = ℕ} 0 1 = cc in
    omega arith

module _ {X : Type 0} (first : List ℕ → Option X) (size : X → ℕ) (f : List ℕ → List (Option X)) (p : Pieces first size f) where
  join_step : (n : ℕ) (s y : List ℕ) (o : Option X) → first s ≡ o → 0 < length s → AllThere (f s) → ((x : X) → first s ≡ Some x → AllThere (f (drop (size x) s)) → f (drop (size x) s ++ y) ≡ f (drop (size x) s) ++ f y) → f (s ++ y) ≡ f s ++ f y
  join_step n s y None e h all next =
      absurd (none_there (f s) (p.step s h ∙ ap (λ o. onward o (λ x. f (drop (size x) s))) e) all)
  join_step n s y (Some x) e h all next =
      let here : f s ≡ Some x ∷ f (drop (size x) s) = p.step s h ∙ ap (λ o. onward o (λ x. f (drop (size x) s))) e in
      let long : length (s ++ y) ≡ length s + length y = length-append s y in
      let there' : f (s ++ y) ≡ Some x ∷ f (drop (size x) (s ++ y)) =
      p.step (s ++ y) (omega arith) ∙ ap (λ o. onward o (λ x. f (drop (size x) (s ++ y)))) (p.cutting.stays s y x e) in
      there'
      ∙ ap (λ t. Some x ∷ f t) (drop-append-le (size x) s y (p.cutting.within s x e))
      ∙ ap (λ t. Some x ∷ t) (next x e (rest_there x (f (drop (size x) s)) (f s) here all))
      ∙ ap (λ t. t ++ f y) (sym here)

  -- pieces, and then the pieces of what follows
  pub join : (n : ℕ) (s y : List ℕ) → length s ≤ n → AllThere (f s) → f (s ++ y) ≡ f s ++ f y
  join n [] y h all = ap (λ xs. xs ++ f y) (sym p.none)
  join zero (b ∷ s) y h all = absurd (omega arith)
  join (suc n) (b ∷ s) y h all =
      join_step n (b ∷ s) y (first (b ∷ s)) refl (omega arith) all
      (λ x e all'.
      let least = p.cutting.some (b ∷ s) x e in
      let long : length (drop (size x) (b ∷ s)) ≡ suc (length s) - size x = length-drop (size x) (b ∷ s) in
      join n (drop (size x) (b ∷ s)) y (omega arith) all')

  one_piece : (s : List ℕ) (x : X) → first s ≡ Some x → f (take (size x) s) ≡ Some x ∷ []
  one_piece s x e =
      let least = p.cutting.some s x e in
      let fits = p.cutting.within s x e in
      let long : length (take (size x) s) ≡ size x = length-take-le (size x) s fits in
      p.step (take (size x) s) (omega arith)
      ∙ ap (λ o. onward o (λ y. f (drop (size y) (take (size x) s)))) (p.cutting.alone s x e)
      ∙ ap (λ t. Some x ∷ f t) (drop_all (size x) (take (size x) s) (omega arith))
      ∙ ap (λ t. Some x ∷ t) p.none

  -- the pieces up to a place, and the piece there
  pub up_to_piece : (s : List ℕ) (i : ℕ) (x : X) → i < length s → first (drop i s) ≡ Some x → AllThere (f (take i s)) → f (take (i + size x) s) ≡ f (take i s) ++ (Some x ∷ [])
  up_to_piece s i x h e all =
      ap f (take-add i (size x) s)
      ∙ join (length (take i s)) (take i s) (take (size x) (drop i s)) (omega arith) all
      ∙ ap (λ t. f (take i s) ++ t) (one_piece (drop i s) x e)
