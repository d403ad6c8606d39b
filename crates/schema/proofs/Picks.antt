-- Some of a list in their order: what a list keeps where elements are left out.
use Rattle.std.proofs.Common.{◌≡◌, ℕ, ◌≤◌, List, [], ◌∷◌, ◌++◌, map, length, sym, refl, ◌∙◌, arith, length-append}
use Rattle.std.specs.List.{flat_map, AllByRecursion}
use Rattle.schema.specs.WellFormed.{Distinct}

-- xs are some of ys in their order, each standing by R to the one whose place it takes
pub data Picks {X Y : Type 0} (R : X → Y → Type 0) : List X → List Y → Type 0 where
  over : Picks R [] []
  kept : {x : X} {y : Y} {xs : List X} {ys : List Y} → R x y → Picks R xs ys → Picks R (x ∷ xs) (y ∷ ys)
  left : {y : Y} {xs : List X} {ys : List Y} → Picks R xs ys → Picks R xs (y ∷ ys)

module _ {X Y : Type 0} {R : X → Y → Type 0} where
  pub picks_none : (ys : List Y) → Picks R [] ys
  picks_none [] = over
  picks_none (y ∷ ys) = left (picks_none ys)

  pub picks_append : {ws xs : List X} {ys zs : List Y} → Picks R ws ys → Picks R xs zs → Picks R (ws ++ xs) (ys ++ zs)
  picks_append over q = q
  picks_append (kept r p) q = kept r (picks_append p q)
  picks_append (left p) q = left (picks_append p q)

  pub picks_length : {xs : List X} {ys : List Y} → Picks R xs ys → length xs ≤ length ys
  picks_length over = omega arith
  picks_length (kept r p) = let l = picks_length p in omega arith
  picks_length (left p) = let l = picks_length p in omega arith

  pub picks_map : {A B : Type 0} (S : A → B → Type 0) (f : X → A) (g : Y → B) → ((x : X) (y : Y) → R x y → S (f x) (g y)) → {xs : List X} {ys : List Y} → Picks R xs ys → Picks S (map f xs) (map g ys)
  picks_map S f g h over = over
  picks_map S f g h (kept {x} {y} r p) = kept (h x y r) (picks_map S f g h p)
  picks_map S f g h (left p) = left (picks_map S f g h p)

  pub picks_all : (P : Y → Type 0) (Q : X → Type 0) → ((x : X) (y : Y) → R x y → P y → Q x) → {xs : List X} {ys : List Y} → Picks R xs ys → AllByRecursion P ys → AllByRecursion Q xs
  picks_all P Q h over a = tt
  picks_all P Q h (kept {x} {y} r p) a = (h x y r a.0, picks_all P Q h p a.1)
  picks_all P Q h (left p) a = picks_all P Q h p a.1

-- what is joined of them
module _ {X A : Type 0} {R : X → X → Type 0} (f : X → List A) where
  pub picks_joined : (S : A → A → Type 0) → ((x y : X) → R x y → Picks S (f x) (f y)) → {xs ys : List X} → Picks R xs ys → Picks S (flat_map f xs) (flat_map f ys)
  picks_joined S h over = over
  picks_joined S h (kept {x} {y} r p) = picks_append (h x y r) (picks_joined S h p)
  picks_joined S h (left {y} p) = picks_append (picks_none (f y)) (picks_joined S h p)

  pub picks_shorter : ((x y : X) → R x y → length (f x) ≤ length (f y)) → {xs ys : List X} → Picks R xs ys → length (flat_map f xs) ≤ length (flat_map f ys)
  picks_shorter h over = omega arith
  picks_shorter h (kept {x} {y} {xs} {ys} r p) =
      let here = h x y r in
      let rest = picks_shorter h p in
      rw (length-append (f x) (flat_map f xs), length-append (f y) (flat_map f ys)) (omega arith)
  picks_shorter h (left {y} {xs} {ys} p) =
      let rest = picks_shorter h p in
      rw (length-append (f y) (flat_map f ys)) (omega arith)

-- a list of one thing for each
pub picks_mapped : {X Y : Type 0} (f : Y → X) (ys : List Y) → Picks (λ x y. x ≡ f y) (map f ys) ys
picks_mapped f [] = over
picks_mapped f (y ∷ ys) = kept refl (picks_mapped f ys)

pub picks_same : {X : Type 0} (R : X → X → Type 0) → ((x : X) → R x x) → (xs : List X) → Picks R xs xs
picks_same R h [] = over
picks_same R h (x ∷ xs) = kept (h x) (picks_same R h xs)

-- some of tags that differ differ
pub picks_distinct : {ts us : List ℕ} → Picks ◌≡◌ ts us → Distinct us → Distinct ts
picks_distinct over d = tt
picks_distinct (kept {x} {y} e p) d =
    ((λ z. d.0.0 (sym e ∙ z), picks_all (λ u. u ≡ y → ⊥) (λ u. u ≡ x → ⊥) (λ t u q differs z. differs (sym q ∙ (z ∙ e))) p d.0.1), picks_distinct p d.1)
picks_distinct (left p) d = picks_distinct p d.1
