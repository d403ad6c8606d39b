use Rattle.std.proofs.Common.{rules}
use Rattle.calls.specs.Calls.{remove}
use Rattle.steps.specs.Steps.{drop_step}
use Rattle.form.proofs.open.OpenForm.drop.Goals as goal

pub returns : goal.returns
returns g c = c.fill.ensures (remove c.args.group) (λ known t u n buffer. drop_step known t u n buffer c.args.group) (λ law. law.drops _ _) (λ w b r b' left. search rules)
