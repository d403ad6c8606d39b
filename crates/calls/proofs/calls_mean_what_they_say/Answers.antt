use Rattle.std.proofs.Common.{refl}
use Rattle.calls.proofs.MeantLaws.{every_call_means_what_it_says}
use Rattle.calls.proofs.calls_mean_what_they_say.Goals as goal

pub returns : goal.returns
returns c = record { value = refl; calls = every_call_means_what_it_says }
