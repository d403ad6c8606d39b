-- The numbers and bytes that are written in words. Assumes nothing.
use Rattle.std.specs.Prelude.{ℕ, ◌+◌, ◌-◌, ◌*◌, ◌^◌, Bool, true, false, cond, ◌&&◌, ◌||◌, List, [], ◌∷◌, Some, None, Option, ◌==◌, nat_le, nat_lt}

-- where a byte stands for the first time, or how many bytes there are
abbrev pub place_of : ℕ → List ℕ → ℕ
place_of sought [] = 0
place_of sought (b ∷ bs) = cond (b == sought) 0 (place_of sought bs + 1)

-- ---- numbers

abbrev pub is_digit : ℕ → Bool
is_digit b = nat_le 48 b && nat_le b 57

-- the number of the digits, with n before them, as long as it is below 2 ^ 64
abbrev pub number_from : ℕ → List ℕ → Option ℕ
number_from n [] = Some n
number_from n (b ∷ bs) = cond (is_digit b && nat_lt (n * 10 + (b - 48)) (2 ^ 64)) (number_from (n * 10 + (b - 48)) bs) None

-- the number of one digit or more
abbrev pub number_of : List ℕ → Option ℕ
number_of [] = None
number_of (b ∷ bs) = number_from 0 (b ∷ bs)

abbrev pub below : ℕ → Option ℕ → Option ℕ
below limit None = None
below limit (Some n) = cond (nat_lt n limit) (Some n) None

-- ---- bytes in hexadecimal, letters in capitals

abbrev pub is_nibble : ℕ → Bool
is_nibble b = (nat_le 48 b && nat_lt b 58) || (nat_le 65 b && nat_lt b 71)

abbrev pub nibble : ℕ → ℕ
nibble b = cond (nat_le 48 b && nat_lt b 58) (b - 48) (cond (nat_le 65 b && nat_lt b 71) (b - 55) 0)

-- two digits to a byte
abbrev pub is_hex : List ℕ → Bool
is_hex [] = true
is_hex (h ∷ []) = false
is_hex (h ∷ (l ∷ s)) = (is_nibble h && is_nibble l) && is_hex s

abbrev pub bytes_of : List ℕ → List ℕ
bytes_of [] = []
bytes_of (h ∷ []) = []
bytes_of (h ∷ (l ∷ s)) = (16 * nibble h + nibble l) ∷ bytes_of s
