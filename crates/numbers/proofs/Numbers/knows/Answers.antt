use Rattle.std.proofs.Common.{rules}
use Rattle.numbers.proofs.Knowing.{known_types}
use Rattle.numbers.proofs.Numbers.knows.Goals as goal

pub returns : goal.returns
returns c = search (rules, known_types)
