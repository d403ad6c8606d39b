use Rattle.std.proofs.Common.{◌≡◌, drop}
use Rattle.order.specs.Words.{number_from}
use Rattle.order.proofs.words.number.Given as goal

-- what is left has the number that the whole has
abbrev pub invariant-loop-b : goal.invariant-loop-b
invariant-loop-b l = number_from l.n (drop l.b-index l.word) ≡ number_from 0 l.word
