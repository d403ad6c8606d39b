use Rattle.std.proofs.Common.{◌<◌, sym, ◌∙◌}
use Rattle.std.proofs.ByRecursion.{All-from_get_or}
use Rattle.schema.specs.Reading.{dictionary_of}
use Rattle.calls.specs.Calls.{by_buffer, closing}
use Rattle.steps.proofs.Law.{steps_are_calls}
use Rattle.form.specs.Forms.{form_numbers}
use Rattle.form.proofs.open.OpenForm.close.Goals as goal

pub returns : goal.returns
returns g c =
    let known = g.L.TypeLibrary.known c.args.library.now in
    let s = c.args.dictionary.now in
    let buffer = c.args.buffer.now in
    let n = form_numbers c.args.self in
    let law = steps_are_calls known (g.met.L.TypeLibrary.lawful c.args.library.now) s buffer (All-from_get_or (λ b. b < 256) buffer 0 (λ i _. (c.type_inv.buffer i).fits)) in
    c.changed.ensures known (dictionary_of s) (closing known s (by_buffer known s buffer) n) buffer (law.closes n ∙ sym c.check_closed-checked.ensures) (law.closed_same n)
