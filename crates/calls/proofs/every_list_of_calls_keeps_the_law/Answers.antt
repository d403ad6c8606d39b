use Rattle.std.proofs.Common.{refl}
use Rattle.calls.proofs.Law.{every_list_keeps_the_law}
use Rattle.calls.proofs.every_list_of_calls_keeps_the_law.Goals as goal

pub returns : goal.returns
returns c = record { value = refl; law = λ known lawful. every_list_keeps_the_law known lawful }
