use Rattle.std.proofs.Common.{refl}
use Rattle.schema.proofs.Exact.{passes_exactly}
use Rattle.schema.proofs.EditionsAgree.{editions_agree}
use Rattle.schema.proofs.editions_agree.Goals as goal

pub returns : goal.returns
returns c = record { value = refl; law = λ known. editions_agree known (passes_exactly known) }
