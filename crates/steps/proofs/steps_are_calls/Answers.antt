use Rattle.std.proofs.Common.{refl}
use Rattle.steps.proofs.Law.{steps_are_calls}
use Rattle.steps.proofs.steps_are_calls.Goals as goal

pub returns : goal.returns
returns c = record { value = refl; law = steps_are_calls }
