-- Numbers in bytes, the little or the big end first, at any width. Assumes nothing.
use Rattle.std.specs.Prelude.{ℕ, zero, suc, ◌+◌, ◌*◌, ◌/◌, ◌%◌, List, [], ◌∷◌, reverse}

-- the number that bytes are, the little end first
abbrev pub le_value : List ℕ → ℕ
le_value [] = 0
le_value (b ∷ s) = b + 256 * le_value s

-- the w low bytes of a number, the little end first
abbrev pub le_bytes : ℕ → ℕ → List ℕ
le_bytes zero n = []
le_bytes (suc w) n = n % 256 ∷ le_bytes w (n / 256)

-- the same with the big end first
abbrev pub be_value : List ℕ → ℕ
be_value s = le_value (reverse s)

abbrev pub be_bytes : ℕ → ℕ → List ℕ
be_bytes w n = reverse (le_bytes w n)
