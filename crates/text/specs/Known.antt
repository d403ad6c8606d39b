-- The types of this library. Assumes nothing.
use Rattle.std.specs.Prelude.{ℕ, Bool, cond, ◌&&◌, ◌||◌, List, length, Some, None, ◌==◌, nat_le, slice_index}
use Rattle.types.specs.Kinds.{Kind, Known}
use Rattle.text.specs.declared.shape.Shape.{Shape}
use Rattle.text.specs.declared.shape.Shape.TheVariants as shape
use Rattle.text.specs.Texts.{text_kind}
use Rattle.text.specs.Investors.{investor_kind}

-- 65 is text: its argument is one byte, the width, 1 to 20
abbrev pub is_text : ℕ → List ℕ → Bool
is_text number argument = number == 65 && (length argument == 1 && (nat_le 1 (slice_index argument 0) && nat_le (slice_index argument 0) 20))

-- 66 is an investor, with no argument
abbrev pub is_an_investor : ℕ → List ℕ → Bool
is_an_investor number argument = number == 66 && length argument == 0

-- what the library knows
abbrev pub text_kinds : Known
text_kinds number argument =
    cond (is_text number argument) (Some (text_kind (slice_index argument 0)))
    (cond (is_an_investor number argument) (Some investor_kind) None)

-- a type is known if it is the one or the other
abbrev pub knows_of : ℕ → List ℕ → Bool
knows_of number argument = is_text number argument || is_an_investor number argument

-- the kind that a shape of the code stands for
abbrev pub kind_of : Shape → Kind
kind_of (shape.Text t) = text_kind t.width
kind_of shape.Investor = investor_kind
