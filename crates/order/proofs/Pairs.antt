-- Words of digits in hexadecimal, two digits to a byte.
use Rattle.std.proofs.Common.{◌≡◌, ℕ, ◌%◌, Bool, true, false, ◌&&◌, List, [], ◌∷◌, length, sym, refl, ap, ◌∙◌, arith}
use Rattle.std.specs.List.{list_all}
use Rattle.order.specs.Words.{is_nibble, is_hex}

paired : (a b c d : Bool) → c ≡ d → (a && (b && c)) ≡ ((a && b) && d)
paired = elim [ true ↦ λ b c d h. ap (λ x. b && x) h | false ↦ λ b c d h. refl ]

never : (a b : Bool) → false ≡ b → false ≡ (a && b)
never = elim [ true ↦ λ b h. h | false ↦ λ b h. refl ]

-- a word of an even length is hexadecimal where each byte is a digit
pub each_a_digit : (s : List ℕ) → length s % 2 ≡ 0 → list_all is_nibble s ≡ is_hex s
each_a_digit [] h = refl
each_a_digit (x ∷ []) h = absurd (omega (arith, h))
each_a_digit (x ∷ (y ∷ s)) h =
    let e : length s % 2 ≡ length (x ∷ (y ∷ s)) % 2 = omega arith in
    paired (is_nibble x) (is_nibble y) (list_all is_nibble s) (is_hex s) (each_a_digit s (e ∙ h))

-- and a word of an odd length is not
pub no_digit_over : (s : List ℕ) → (length s % 2 ≡ 0 → ⊥) → false ≡ is_hex s
no_digit_over [] h = absurd (h refl)
no_digit_over (x ∷ []) h = refl
no_digit_over (x ∷ (y ∷ s)) h =
    let e : length s % 2 ≡ length (x ∷ (y ∷ s)) % 2 = omega arith in
    never (is_nibble x && is_nibble y) (is_hex s) (no_digit_over s (λ z. h (sym e ∙ z)))
