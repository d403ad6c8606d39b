-- How numbers, bytes, values and refusals are written. Assumes nothing.
use Rattle.std.specs.Prelude.{ℕ, ◌/◌, ◌%◌, true, List, [], ◌∷◌, ◌++◌, codes, decimal}
use Rattle.std.specs.Fmt.{digit_glyph, signed_decimal}
use Rattle.wire.specs.declared.refusal.Refusal.{Refusal}
use Rattle.wire.specs.Refusals.{number_of}
use Rattle.types.specs.Meanings as meaning
use Rattle.types.specs.Meanings.{Meaning}

-- numbers in decimal, each behind a blank
abbrev pub numbers : List ℕ → List ℕ
numbers [] = []
numbers (n ∷ ns) = 32 ∷ (decimal n ++ numbers ns)

-- a byte as two digits in hexadecimal
abbrev pub pair : ℕ → List ℕ
pair b = digit_glyph true (b / 16) ∷ digit_glyph true (b % 16) ∷ []

-- the same for each byte
abbrev pub pairs : List ℕ → List ℕ
pairs [] = []
pairs (b ∷ bs) = pair b ++ pairs bs

-- and a dash where there are none
abbrev pub hex : List ℕ → List ℕ
hex [] = 45 ∷ []
hex (b ∷ bs) = pairs (b ∷ bs)

-- a value; absent is a dash
abbrev pub written_value : Meaning → List ℕ
written_value meaning.absent = 45 ∷ []
written_value (meaning.unsigned n) = decimal n
written_value (meaning.signed z) = signed_decimal z
written_value (meaning.decimal z n) = signed_decimal z ++ (101 ∷ 45 ∷ decimal n)
written_value (meaning.text s) = hex s
written_value (meaning.investor p d) = decimal p ++ (47 ∷ decimal d)

-- the place of a refusal and its number
abbrev pub place_and_number : Refusal → List ℕ
place_and_number e = decimal e.place ++ (codes " " ++ decimal (number_of e.reason))
