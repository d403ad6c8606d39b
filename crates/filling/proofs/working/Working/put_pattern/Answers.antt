use Rattle.std.proofs.Common.{Ok, Err, sym, refl, ap, ◌∙◌, subst}
use Rattle.std.proofs.lemmas.Result.{err_from_is_err_and}
use Rattle.schema.specs.Reading.{template_of}
use Rattle.dictionary.specs.Shown.{shown_section, shown_field}
use Rattle.places.specs.Places.{PlacedField}
use Rattle.steps.specs.Steps.{patched_in, Leaves}
use Rattle.filling.proofs.Patterns.{patched_by}
use Rattle.filling.proofs.working.Working.put_pattern.Goals as goal

pub returns-in_err-bytes : goal.returns-in_err-bytes
returns-in_err-bytes g c answer h =
    let w = c.args.self.now in
    let buffer = c.args.buffer.now in
    let f : PlacedField = record { place = c.in_ok-f.f.place; field = shown_field c.in_ok-f.f.field } in
    let is = h f c.in_ok-f.f.field.argument c.pattern-answer.result refl c.pattern-answer.ensures in
    let all = patched_by (g.L.TypeLibrary.known w.library.now) (template_of (shown_section w.section)) w.form.version w.form.length buffer answer c.args.group c.args.entry c.args.tag f c.pattern-answer.result (Err c.in_err-bytes.field-0.0) (search (c.in_ok-f.ensures.value, c.upto.ensures)) is (sym c.in_err-bytes.was ∙ c.located.ensures) in
    let p = err_from_is_err_and c.from_residual-in_err-bytes.result c.from_residual-in_err-bytes.ensures.1 in
    subst (λ x. Leaves x c.from_residual-in_err-bytes.result buffer buffer) (sym all) (p.1 ∙ ap Err p.2, refl)

pub returns : goal.returns
returns g c answer h =
    let w = c.args.self.now in
    let buffer = c.args.buffer.now in
    let f : PlacedField = record { place = c.in_ok-f.f.place; field = shown_field c.in_ok-f.f.field } in
    let is = h f c.in_ok-f.f.field.argument c.pattern-answer.result refl c.pattern-answer.ensures in
    let all = patched_by (g.L.TypeLibrary.known w.library.now) (template_of (shown_section w.section)) w.form.version w.form.length buffer answer c.args.group c.args.entry c.args.tag f c.pattern-answer.result (Ok c.in_ok-bytes.bytes) (search (c.in_ok-f.ensures.value, c.upto.ensures)) is (sym c.in_ok-bytes.was ∙ c.located.ensures) in
    subst (λ x. Leaves x (Ok w.form.length) buffer c.put_in.new.buffer) (sym all) (refl, c.put_in.ensures.value ∙ ap (λ x. patched_in c.in_ok-f.f.place x buffer) c.as_bytes.ensures.value)
