-- What the code finds by a number and an argument. Assumes nothing.
use Rattle.std.specs.Prelude.{List, ℕ, cond, Some, None, Option}
use Rattle.types.specs.Kinds.{Kind}
use Rattle.numbers.specs.declared.codes.Codes.{Codes}
use Rattle.numbers.specs.declared.Found.{Found}
use Rattle.numbers.specs.declared.Found.TheVariants as found
use Rattle.numbers.specs.Codes.{code_list}
use Rattle.numbers.specs.Kinds.{numeric_kind, codes_kind}

-- the list of the codes that are found
abbrev pub listing : Option Codes → Option (List ℕ)
listing None = None
listing (Some c) = Some c.list.now

-- an argument that is a list of codes
abbrev pub codes_of : List ℕ → Option (List ℕ)
codes_of argument = cond (code_list argument) (Some argument) None

-- the kind of what is found
abbrev pub kind_found : Found → Kind
kind_found (found.Codes c) = codes_kind c.list.now
kind_found (found.Number t) = numeric_kind t
