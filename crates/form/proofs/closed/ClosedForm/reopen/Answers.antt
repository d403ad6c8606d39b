use Rattle.std.proofs.Common.{sym, ◌∙◌}
use Rattle.schema.specs.Reading.{dictionary_of}
use Rattle.calls.specs.Calls.{by_buffer, reopening}
use Rattle.steps.proofs.Law.{steps_are_calls}
use Rattle.form.specs.Forms.{form_numbers}
use Rattle.form.proofs.closed.ClosedForm.reopen.Goals as goal

pub returns : goal.returns
returns g c =
    let known = g.L.TypeLibrary.known c.args.library.now in
    let s = c.args.dictionary.now in
    let buffer = c.args.buffer.now in
    let n = form_numbers c.args.self in
    let law = steps_are_calls known (g.met.L.TypeLibrary.lawful c.args.library.now) s buffer c.check_reopened-checked.ensures.bytes in
    c.changed.ensures known (dictionary_of s) (reopening known s (by_buffer known s buffer) n) buffer (law.reopens n ∙ sym c.check_reopened-checked.ensures.value) (law.reopened_same n)
