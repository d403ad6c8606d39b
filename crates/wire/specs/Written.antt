-- How a refusal is written. Assumes nothing.
use Rattle.std.specs.Prelude.{ℕ, List, ◌++◌, codes, decimal}
use Rattle.wire.specs.declared.refusal.Refusal.{Refusal}
use Rattle.wire.specs.Refusals.{number_of}

-- the number, the place and the tag of a refusal, with a blank between
abbrev pub written : Refusal → List ℕ
written e = decimal (number_of e.reason) ++ (codes " " ++ (decimal e.place ++ (codes " " ++ decimal e.tag)))
