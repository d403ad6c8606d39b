-- What the two libraries that ship know together. Assumes nothing.
use Rattle.std.specs.Prelude.{ℕ, Bool, ◌||◌, List}
use Rattle.types.specs.Kinds.{Known, joined}
use Rattle.numbers.specs.Types.{number_kinds, is_number_type}
use Rattle.text.specs.Known.{text_kinds}
use Rattle.text.specs.Known.{knows_of as is_text_type}

abbrev pub base_kinds : Known
base_kinds = joined number_kinds text_kinds

-- a type is known if it is a number's or a text's
abbrev pub knows_of : ℕ → List ℕ → Bool
knows_of number argument = is_number_type number argument || is_text_type number argument
