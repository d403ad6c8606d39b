use Rattle.std.proofs.Common.{rules}
use Rattle.types.specs.Meanings.{meaning}
use Rattle.calls.specs.Calls.{set}
use Rattle.steps.specs.Steps.{set_step}
use Rattle.form.proofs.Filled.{never_absent}
use Rattle.form.proofs.open.OpenForm.set.Goals as goal

pub returns : goal.returns
returns g c = c.fill.ensures (set c.args.group c.args.entry c.args.tag (meaning c.args.value)) (λ known t u n buffer. set_step known t u n buffer c.args.group c.args.entry c.args.tag (meaning c.args.value)) (λ law. law.sets _ c.args.group c.args.entry c.args.tag _ (never_absent c.args.value)) (λ w b r b' left. search rules)
