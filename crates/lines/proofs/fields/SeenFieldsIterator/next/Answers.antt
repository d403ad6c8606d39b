use Rattle.std.proofs.Common.{refl, arith}
use Rattle.dictionary.specs.Shown.{shown_field}
use Rattle.dictionary.proofs.Cutting.{fewer}
use Rattle.lines.proofs.Seeing.{seen_fits, seen_on, seen_no_more}
use Rattle.lines.proofs.fields.SeenFieldsIterator.next.Goals as goal

pub returns-in_err-field-clause-steps : goal.returns-in_err-field-clause-steps
returns-in_err-field-clause-steps c =
    let none = seen_no_more c.args.self.now.version c.args.self.now.fields.rest.now c.in_err-field.ensures in
    rw c.from_residual.ensures ((none, none), refl)

pub tail-self-requires : goal.tail-self-requires
tail-self-requires c =
    let fits = seen_fits c.args.self.now.version c.args.self.now.fields.rest.now (shown_field c.in_ok-field.field) c.in_ok-field.ensures in
    omega (arith, c.size.ensures)

pub returns-clause-steps : goal.returns-clause-steps
returns-clause-steps c = (seen_on c.args.self.now.version c.args.self.now.fields.rest.now c.tail-self.result.now (shown_field c.in_ok-field.field) c.size.result c.in_ok-field.ensures c.size.ensures c.tail-self.ensures.value, refl)

pub returns-clause-goes : goal.returns-clause-goes
returns-clause-goes c =
    let step = seen_on c.args.self.now.version c.args.self.now.fields.rest.now c.tail-self.result.now (shown_field c.in_ok-field.field) c.size.result c.in_ok-field.ensures c.size.ensures c.tail-self.ensures.value in
    record { on = λ _. (tt, tt, fewer _ _ _ step.0); keeps = tt; rests = λ _. tt }
