use Rattle.std.proofs.Common.{rules}
use Rattle.calls.specs.Calls.{clear}
use Rattle.steps.specs.Steps.{clear_step}
use Rattle.form.proofs.open.OpenForm.clear.Goals as goal

pub returns : goal.returns
returns g c = c.fill.ensures (clear c.args.group c.args.entry c.args.tag) (λ known t u n buffer. clear_step known t u n buffer c.args.group c.args.entry c.args.tag) (λ law. law.clears _ c.args.group c.args.entry c.args.tag) (λ w b r b' left. search rules)
