-- What a pattern means. Assumes nothing.
use Rattle.std.specs.Prelude.{ℕ, ◌^◌, ◌<◌, List, ℤ, FitsSigned}
use Rattle.std.specs.Int.{w64}
use Rattle.wire.specs.Bytes.{Bytes}
use Rattle.types.specs.declared.value.Value.{Value}
use Rattle.types.specs.declared.value.Value.TheVariants as value

-- a value, with a text as its characters, or that there is none
pub data Meaning : Type 0 where
  absent : Meaning
  unsigned : ℕ → Meaning
  signed : ℤ → Meaning
  decimal : ℤ → ℕ → Meaning
  text : List ℕ → Meaning
  investor : ℕ → ℕ → Meaning

-- what a value of the code stands for
abbrev pub meaning : Value → Meaning
meaning (value.Unsigned n) = unsigned n
meaning (value.Signed z) = signed z
meaning (value.Decimal mantissa decimals) = decimal mantissa decimals
meaning (value.Text s) = text s.now
meaning (value.Investor pair) = investor pair.0 pair.1

-- the meaning is absent, or a value that the code can hold: each number of it fits its type, and a text is bytes
abbrev pub Sayable : Meaning → Type 0
Sayable absent = Unit {0}
Sayable (unsigned n) = n < 2 ^ 64
Sayable (signed z) = FitsSigned w64 z
Sayable (decimal mantissa decimals) = FitsSigned w64 mantissa × (decimals < 2 ^ 8)
Sayable (text s) = Bytes s
Sayable (investor prefix document) = (prefix < 2 ^ 16) × (document < 2 ^ 32)
