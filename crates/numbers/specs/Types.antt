-- What the number library knows. Assumes nothing.
use Rattle.std.specs.Prelude.{ℕ, Bool, cond, ◌&&◌, List, length, Some, None, Option, ◌==◌, nat_le, slice_index}
use Rattle.types.specs.Kinds.{Kind, Known}
use Rattle.numbers.specs.declared.numeric.Numeric.{Numeric}
use Rattle.numbers.specs.Numerics.{numeric_of}
use Rattle.numbers.specs.Codes.{code_list}
use Rattle.numbers.specs.Kinds.{numeric_kind, codes_kind}

-- what a number and an argument name: one out of the argument's list of codes, or a type of numbers
pub data Named : Type 0 where
  codes : Named
  number : Numeric → Named

abbrev pub found_number : Option Numeric → Option Named
found_number None = None
found_number (Some t) = Some (number t)

-- number 7 has a list of codes as its argument, the other numbers are of the table
abbrev pub found_of : ℕ → List ℕ → Option Named
found_of n argument =
    cond (n == 7)
    (cond (code_list argument) (Some codes) None)
    (found_number (numeric_of n argument))

abbrev pub kind_of : List ℕ → Option Named → Option Kind
kind_of argument None = None
kind_of argument (Some codes) = Some (codes_kind argument)
kind_of argument (Some (number t)) = Some (numeric_kind t)

abbrev pub number_kinds : Known
number_kinds n argument = kind_of argument (found_of n argument)

-- Which types are known: 1 to 4 with one byte up to 2, 5 and 6 with one byte up to 3, 7 with a list of codes, and 8 with a byte up to 3 and one up to 9.
abbrev pub is_number_type : ℕ → List ℕ → Bool
is_number_type n argument =
    cond (n == 7) (code_list argument)
    (cond (n == 8) ((length argument == 2 && nat_le (slice_index argument 0) 3) && nat_le (slice_index argument 1) 9)
    ((nat_le 1 n && nat_le n 6) && (length argument == 1 && nat_le (slice_index argument 0) (cond (nat_le n 4) 2 3))))
