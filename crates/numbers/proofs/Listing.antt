-- Lists of codes: what the slice's own tests say of them.
use Rattle.std.proofs.Common.{◌≡◌, ℕ, zero, suc, ◌+◌, ◌<◌, Bool, true, false, eqb, ltb, ◌||◌, List, [], ◌∷◌, length, get_or, refl, ap, arith}
use Rattle.std.specs.List.{AllAdjacentBelow, IsAllAdjacentAnswer, list_any}
use native.Mathlib.Numerals.{unary_clauses}
use Rattle.std.proofs.lemmas.Bool.Decides.{nat_tests}
use Rattle.wire.specs.Bytes.{Bytes}
use Rattle.numbers.specs.Codes.{rising_from, listed}

-- each code is below the next
rises : (b : ℕ) (s : List ℕ) → Bytes s → AllAdjacentBelow (λ x y. true ≡ ltb x y) (b ∷ s) (length (b ∷ s)) → rising_from (b + 1) s ≡ true
rises b [] known h = refl
rises b (c ∷ s) known h =
    let here : true ≡ ltb b c = h 0 0 (omega arith) in
    let rest : AllAdjacentBelow (λ x y. true ≡ ltb x y) (c ∷ s) (length (c ∷ s)) = λ k d l. let t = simp unary_clauses at (h (suc k) d (omega arith)) in simp unary_clauses t in
    let more : rising_from (c + 1) s ≡ true = rises c s known.1 rest in
    grind (arith, nat_tests)

-- some code is not
falls : (k b : ℕ) (s : List ℕ) → k + 1 < length (b ∷ s) → ((d : ℕ) → false ≡ ltb (get_or (b ∷ s) k d) (get_or (b ∷ s) (k + 1) d)) → rising_from (b + 1) s ≡ false
falls k b [] l h = absurd (omega arith)
falls zero b (c ∷ s) l h =
    let here : false ≡ ltb b c = h 0 in
    grind (arith, nat_tests)
falls (suc k) b (c ∷ s) l h =
    let rest : (d : ℕ) → false ≡ ltb (get_or (c ∷ s) k d) (get_or (c ∷ s) (k + 1) d) = λ d. let t = simp unary_clauses at (h d) in simp unary_clauses t in
    let more : rising_from (c + 1) s ≡ false = falls k c s (omega arith) rest in
    grind (arith, nat_tests)

pub rising_answer : (s : List ℕ) (r : Bool) → Bytes s → IsAllAdjacentAnswer (λ x y b. b ≡ ltb x y) s r → r ≡ rising_from 0 s
rising_answer [] true known h = refl
rising_answer [] false known h = let none : h.0 + 1 < 0 = h.1 in absurd (omega arith)
rising_answer (b ∷ s) true known h = let more = rises b s known.1 h in grind (arith, nat_tests)
rising_answer (b ∷ s) false known h = let more = falls h.0 b s h.1 h.2 in grind (arith, nat_tests)

-- a code is listed if some code of the list is that one
pub listed_any : (n : ℕ) (s : List ℕ) → listed n s ≡ list_any (λ b. eqb b n) s
listed_any n [] = refl
listed_any n (b ∷ s) = ap (λ (x : Bool). eqb b n || x) (listed_any n s)
