-- An investor: a prefix and a document in eight bytes. Assumes nothing.
use Rattle.std.specs.Prelude.{ℕ, Bool, cond, not, ◌&&◌, List, ◌∷◌, ◌++◌, length, take, drop, Some, None, Option, ◌==◌, nat_lt}
use Rattle.wire.specs.Numbers.{le_value, le_bytes}
use Rattle.types.specs.Meanings.{Meaning, absent, unsigned, signed, decimal, text, investor}
use Rattle.types.specs.Kinds.{Kind}
use Rattle.text.specs.Texts.{only_zeros, zeros}

-- neither a prefix nor a document
abbrev pub nobody : ℕ → ℕ → Bool
nobody p d = p == 0 && d == 0

-- the investor of a prefix and a document, or absent
abbrev pub investor_of : ℕ → ℕ → Meaning
investor_of p d = cond (nobody p d) absent (investor p d)

-- two bytes of prefix, two zeros, four bytes of document; all zeros is absent
abbrev pub investor_means : List ℕ → Option Meaning
investor_means s =
    cond (length s == 8 && only_zeros (take 2 (drop 2 s)))
    (Some (investor_of (le_value (take 2 s)) (le_value (take 4 (drop 4 s)))))
    None

-- a prefix of two bytes and a document of four, not both 0
abbrev pub is_investor : ℕ → ℕ → Bool
is_investor p d = not (nobody p d) && (nat_lt p 65536 && nat_lt d 4294967296)

-- the pattern of an investor: the prefix, two zeros, the document, the little end first
abbrev pub investor_pattern : Meaning → Option (List ℕ)
investor_pattern absent = Some (zeros 8)
investor_pattern (unsigned n) = None
investor_pattern (signed z) = None
investor_pattern (decimal z n) = None
investor_pattern (text s) = None
investor_pattern (investor p d) = cond (is_investor p d) (Some (le_bytes 2 p ++ (0 ∷ 0 ∷ le_bytes 4 d))) None

-- the type; a blank one is all zeros, which is absent
abbrev pub investor_kind : Kind
investor_kind = record { width = 8; means = investor_means; pattern = investor_pattern; blank = zeros 8; blank_means = absent }
