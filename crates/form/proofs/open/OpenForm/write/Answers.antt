use Rattle.std.proofs.Common.{rules}
use Rattle.calls.specs.Calls.{write}
use Rattle.steps.specs.Steps.{write_step}
use Rattle.form.proofs.open.OpenForm.write.Goals as goal

pub returns : goal.returns
returns g c = c.fill.ensures (write c.args.tag c.args.content.now) (λ known t u n buffer. write_step known t u n buffer c.args.tag c.args.content.now) (λ law. law.writes _ _ _) (λ w b r b' left. search rules)
