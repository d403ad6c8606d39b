-- Lists of codes. Assumes nothing.
use Rattle.std.specs.Prelude.{ℕ, ◌+◌, Bool, true, false, ◌&&◌, ◌||◌, List, [], ◌∷◌, length, ◌==◌, nat_le, nat_lt}

-- the list is strictly rising from `low` on, and each code of it is a byte
abbrev pub rising_from : ℕ → List ℕ → Bool
rising_from low [] = true
rising_from low (b ∷ s) = (nat_le low b && nat_lt b 256) && rising_from (b + 1) s

-- a list of codes is 1 to 32 bytes, strictly rising
abbrev pub code_list : List ℕ → Bool
code_list s = (nat_le 1 (length s) && nat_le (length s) 32) && rising_from 0 s

-- the code is one of the list
abbrev pub listed : ℕ → List ℕ → Bool
listed n [] = false
listed n (b ∷ s) = b == n || listed n s
