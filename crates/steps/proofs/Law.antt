-- What is done to the bytes of a buffer is what the calls say, put together.
use Rattle.std.proofs.Common.{ℕ, List}
use Rattle.wire.specs.Bytes.{Bytes}
use Rattle.types.specs.Kinds.{Known, AllLawful}
use Rattle.steps.specs.Laws.{StepsAreCalls}
use Rattle.steps.proofs.Opening as opening
use Rattle.steps.proofs.Setting as setting
use Rattle.steps.proofs.Adding as adding
use Rattle.steps.proofs.Writing as writing
use Rattle.steps.proofs.ClosingSteps as closing

pub steps_are_calls : (known : Known) → AllLawful known → (s buffer : List ℕ) → Bytes buffer → StepsAreCalls known s buffer
steps_are_calls known lawful s buffer y = record {
  opens = opening.opens known lawful s buffer;
  sets = λ n. setting.sets known s buffer n lawful y;
  clears = λ n. setting.clears known s buffer n lawful y;
  appends = λ n. adding.appends known s buffer n lawful y;
  drops = λ n. adding.drops known s buffer n lawful y;
  writes = λ n. writing.writes known s buffer n lawful y;
  closes = λ n. closing.closes known s buffer n lawful y;
  reopens = λ n. closing.reopens known s buffer n lawful y;
  same_template = λ n. closing.same_template known s buffer n lawful y;
  closed_same = λ n. closing.closed_same known s buffer n lawful y;
  reopened_same = λ n. closing.reopened_same known s buffer n lawful y;
  opened_same = opening.opened_same known s buffer;
}
