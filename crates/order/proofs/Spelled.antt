-- Numbers and bytes that are written in words, one byte after another.
use Rattle.std.proofs.Common.{◌≡◌, ℕ, ◌+◌, ◌-◌, ◌*◌, ◌^◌, ◌<◌, ◌≤◌, Bool, true, false, cond, ◌&&◌, eqb, ltb, List, [], ◌∷◌, length, get_or, drop, Some, None, sym, refl, ap, ◌∙◌, add_comm, arith}
use Rattle.std.specs.List.{position, position_or_len}
use Rattle.std.specs.Option.{unwrap_or}
use Rattle.std.proofs.lemmas.List.{at_drop_more}
use Rattle.std.proofs.lemmas.List.Recursion.{is_position_or_len}
use Rattle.std.proofs.lemmas.List.Sums.{prefix_len-le-length}
use Rattle.std.proofs.lemmas.Bool.{ltb-false}
use Rattle.order.specs.Words.{place_of, is_digit, number_from, number_of}

-- the place is that of the first byte that is the one sought
pub place_is : (sought : ℕ) (s : List ℕ) → place_of sought s ≡ position_or_len (λ b. eqb b sought) s
place_is sought = is_position_or_len (place_of sought) (λ b. eqb b sought) refl (λ x xs. ap (cond (eqb x sought) 0) (add_comm (place_of sought xs) 1))

pub place_found : (sought : ℕ) (s : List ℕ) → unwrap_or (position (λ b. eqb b sought) s) (length s) ≡ place_of sought s
place_found sought s =
    let n = position_or_len (λ b. eqb b sought) s in
    let most : n ≤ length s = prefix_len-le-length _ s in
    let at : (t : Bool) → ltb n (length s) ≡ t → unwrap_or (cond t (Some n) None) (length s) ≡ n = elim [ true ↦ λ h. refl | false ↦ λ h. let least = ltb-false n (length s) h in omega (arith, most, least) ] in
    at (ltb n (length s)) refl ∙ sym (place_is sought s)

-- one turn of a number
pub number_turn : (n : ℕ) (s : List ℕ) (i : ℕ) → i < length s → number_from n (drop i s) ≡ cond (is_digit (get_or s i 0) && ltb (n * 10 + (get_or s i 0 - 48)) (2 ^ 64)) (number_from (n * 10 + (get_or s i 0 - 48)) (drop (i + 1) s)) None
number_turn n s i h = at_drop_more (number_from n) s i 0 h

-- a word that is not empty
pub number_is : (s : List ℕ) → eqb (length s) 0 ≡ false → number_of s ≡ number_from 0 s
number_is [] h = absurd (let z : true ≡ false = h in cc)
number_is (b ∷ bs) h = refl
