-- How an outcome is written. Assumes nothing.
use Rattle.std.specs.Prelude.{ℕ, List, ◌++◌, codes}
use Rattle.printing.specs.Written.{place_and_number}
use Rattle.editions.specs.declared.Outcome.{Outcome}
use Rattle.editions.specs.declared.Outcome.TheVariants as outcome

abbrev pub written : Outcome → List ℕ
written outcome.Earlier = codes "earlier edition"
written outcome.NotEarlier = codes "not an earlier edition"
written (outcome.FirstRefused e) = codes "D 1 " ++ place_and_number e
written (outcome.SecondRefused e) = codes "D 2 " ++ place_and_number e
