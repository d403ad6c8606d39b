use Rattle.std.proofs.Common.{length, sym, ap, subst}
use Rattle.std.proofs.lemmas.Result.{err_from_is_err_and}
use Rattle.schema.specs.Reading.{dictionary_of}
use Rattle.calls.specs.Calls.{opening}
use Rattle.steps.specs.Steps.{Leaves, open_step}
use Rattle.steps.proofs.Opening.{opens, opened_same}
use Rattle.filling.specs.Shown.{plain_numbers}
use Rattle.form.specs.Forms.{Opens}
use Rattle.form.proofs.Filled.{not_opened, opened}
use Rattle.form.proofs.open.OpenForm.open.Goals as goal

pub returns-in_err-length : goal.returns-in_err-length
returns-in_err-length g c =
    let known = g.L.TypeLibrary.known c.args.library.now in
    let s = c.args.dictionary.now in
    let buffer = c.args.buffer.now in
    let is = opens known (g.met.L.TypeLibrary.lawful c.args.library.now) s buffer c.args.template c.args.version in
    let left = subst (λ r. Leaves (open_step known s buffer c.args.template c.args.version) r buffer c.open_frame.new.buffer) c.in_err-length.was c.open_frame.ensures in
    let p = err_from_is_err_and c.from_residual.result c.from_residual.ensures.1 in
    subst (λ r. Opens known (dictionary_of s) (opening known s (length buffer) c.args.template c.args.version) r buffer c.open_frame.new.buffer) (sym p.1) (rw p.2 (not_opened known s buffer c.args.template c.args.version is c.in_err-length.field-0.0 c.open_frame.new.buffer left))

pub returns : goal.returns
returns g c =
    let known = g.L.TypeLibrary.known c.args.library.now in
    let s = c.args.dictionary.now in
    let buffer = c.args.buffer.now in
    let is = opens known (g.met.L.TypeLibrary.lawful c.args.library.now) s buffer c.args.template c.args.version in
    let left = subst (λ r. Leaves (open_step known s buffer c.args.template c.args.version) r buffer c.open_frame.new.buffer) c.in_ok-length.was c.open_frame.ensures in
    opened known s buffer c.args.template c.args.version is (opened_same known s buffer c.args.template c.args.version) c.in_ok-length.length c.of.result c.open_frame.new.buffer (ap plain_numbers c.of.ensures) left
