-- Numbers as bits of a width of w bytes: what they stand for, and which of them mean absent. Assumes nothing.
use Rattle.std.specs.Prelude.{ℕ, ◌-◌, ◌/◌, ◌^◌, Bool, false, cond, ℤ, pos, negsuc, Some, None, Option, ◌==◌, nat_lt}
use Rattle.types.specs.Meanings.{Meaning, absent, unsigned, signed, decimal, text, investor}
use Rattle.numbers.specs.declared.numeric.Form.{Form}
use Rattle.numbers.specs.declared.numeric.Form.TheVariants.{Unsigned, Signed, Decimal}
use Rattle.numbers.specs.declared.numeric.Absent.{Absent}
use Rattle.numbers.specs.declared.numeric.Absent.TheVariants.{Never, Zero, Ones, Top}

-- all bits one
abbrev pub ones : ℕ → ℕ
ones w = 256 ^ w - 1

-- only the top bit set
abbrev pub top : ℕ → ℕ
top w = 256 ^ w / 2

-- the bits that mean absent by a rule
abbrev pub absent_bits : ℕ → Absent → Option ℕ
absent_bits w Never = None
absent_bits w Zero = Some 0
absent_bits w Ones = Some (ones w)
absent_bits w Top = Some (top w)

-- the bits are those that mean absent, where there are any
abbrev pub is_mark : Option ℕ → ℕ → Bool
is_mark None n = false
is_mark (Some mark) n = n == mark

-- bits as a number in two's complement: those with the top bit set are below zero, and all bits one are -1
abbrev pub signed_of : ℕ → ℕ → ℤ
signed_of w n = cond (nat_lt n (top w)) (pos n) (negsuc (ones w - n))

-- the bits of a number in two's complement, where it is in range; negsuc n is -1 - n
abbrev pub signed_bits : ℕ → ℤ → Option ℕ
signed_bits w (pos n) = cond (nat_lt n (top w)) (Some n) None
signed_bits w (negsuc n) = cond (nat_lt n (top w)) (Some (ones w - n)) None

-- the value that bits stand for
abbrev pub value_of : Form → ℕ → ℕ → Meaning
value_of Unsigned w n = unsigned n
value_of Signed w n = signed (signed_of w n)
value_of (Decimal decimals) w n = decimal (signed_of w n) decimals

-- the bits that stand for a value: none where it is out of range, has other decimals or is of another kind
abbrev pub bits_of : Form → ℕ → Meaning → Option ℕ
bits_of form w absent = None
bits_of Unsigned w (unsigned n) = cond (nat_lt n (256 ^ w)) (Some n) None
bits_of Signed w (unsigned n) = None
bits_of (Decimal decimals) w (unsigned n) = None
bits_of Unsigned w (signed z) = None
bits_of Signed w (signed z) = signed_bits w z
bits_of (Decimal decimals) w (signed z) = None
bits_of Unsigned w (decimal z d) = None
bits_of Signed w (decimal z d) = None
bits_of (Decimal decimals) w (decimal z d) = cond (d == decimals) (signed_bits w z) None
bits_of form w (text s) = None
bits_of form w (investor a b) = None
