use Rattle.std.proofs.Common.{ℕ, ◌<◌, Err, sym, ap, ◌∙◌, subst}
use Rattle.schema.specs.Reading.{version_of}
use Rattle.filling.specs.Shown.{plain_numbers}
use Rattle.filling.proofs.Fronts.{too_new}
use Rattle.filling.proofs.working.working_section.Goals as goal

pub returns-then-form-number_at : goal.returns-then-form-number_at
returns-then-form-number_at g c =
    let above : version_of c.args.dictionary.now < c.args.form.version = subst (λ (v : ℕ). v < c.args.form.version) c.number_at.ensures c.if-form-number_at.true in
    ap Err c.at.ensures ∙ sym (too_new (g.L.TypeLibrary.known c.args.library.now) c.args.dictionary.now c.args.buffer.now (plain_numbers c.args.form) above)
