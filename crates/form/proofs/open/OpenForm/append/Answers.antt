use Rattle.std.proofs.Common.{rules}
use Rattle.calls.specs.Calls.{append}
use Rattle.steps.specs.Steps.{append_step}
use Rattle.form.proofs.open.OpenForm.append.Goals as goal

pub returns : goal.returns
returns g c = c.fill.ensures (append c.args.group) (λ known t u n buffer. append_step known t u n buffer c.args.group) (λ law. law.appends _ _) (λ w b r b' left. search rules)
