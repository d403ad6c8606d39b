-- The table of the number types: number, width, form, and the absent rules. Assumes nothing.
use Rattle.std.specs.Prelude.{ℕ, cond, ◌&&◌, List, [], ◌∷◌, Some, None, Option, ◌==◌, nat_le}
use Rattle.numbers.specs.declared.numeric.Width.{Width}
use Rattle.numbers.specs.declared.numeric.Width.TheVariants.{One, Two, Four, Eight}
use Rattle.numbers.specs.declared.numeric.Form.{Form}
use Rattle.numbers.specs.declared.numeric.Form.TheVariants.{Unsigned, Signed, Decimal}
use Rattle.numbers.specs.declared.numeric.Absent.{Absent}
use Rattle.numbers.specs.declared.numeric.Absent.TheVariants.{Never, Zero, Ones, Top}
use Rattle.numbers.specs.declared.numeric.Numeric.{Numeric}

abbrev pub bytes_in : Width → ℕ
bytes_in One = 1
bytes_in Two = 2
bytes_in Four = 4
bytes_in Eight = 8

-- the table by number; 8 is a decimal, as 6 with its decimals
abbrev pub entry_of : ℕ → ℕ → Option (Width × Form)
entry_of number decimals =
    cond (number == 1) (Some (One, Unsigned))
    (cond (number == 2) (Some (Two, Unsigned))
    (cond (number == 3) (Some (Four, Unsigned))
    (cond (number == 4) (Some (Eight, Unsigned))
    (cond (number == 5) (Some (Four, Signed))
    (cond (number == 6) (Some (Eight, Signed))
    (cond (number == 8) (Some (Eight, Decimal decimals)) None))))))

-- rule 3, only the top bit set, is for signed forms
abbrev pub top_rule : Form → Option Absent
top_rule Unsigned = None
top_rule Signed = Some Top
top_rule (Decimal decimals) = Some Top

-- absent by its byte: 0 none, 1 zero, 2 all bits one, 3 only the top bit set
abbrev pub rule_of : Form → ℕ → Option Absent
rule_of form byte =
    cond (byte == 0) (Some Never)
    (cond (byte == 1) (Some Zero)
    (cond (byte == 2) (Some Ones)
    (cond (byte == 3) (top_rule form) None)))

abbrev pub with_rule : Width → Form → Option Absent → Option Numeric
with_rule width form None = None
with_rule width form (Some absent) = Some (record { width = width; form = form; absent = absent })

abbrev pub with_form : Option (Width × Form) → ℕ → Option Numeric
with_form None byte = None
with_form (Some entry) byte = with_rule entry.0 entry.1 (rule_of entry.1 byte)

-- the argument is the byte of the absent rule, and for number 8 the decimals after it, 0 to 9
abbrev pub numeric_of : ℕ → List ℕ → Option Numeric
numeric_of number [] = None
numeric_of number (byte ∷ []) = cond (number == 8) None (with_form (entry_of number 0) byte)
numeric_of number (byte ∷ (decimals ∷ [])) = cond (number == 8 && nat_le decimals 9) (with_form (entry_of number decimals) byte) None
numeric_of number (byte ∷ (decimals ∷ (more ∷ rest))) = None
