use Rattle.std.proofs.Common.{Ok, Err, sym, refl, subst}
use Rattle.std.proofs.lemmas.Result.{err_from_is_err_and}
use Rattle.schema.specs.Reading.{template_of, dictionary_of}
use Rattle.dictionary.specs.Shown.{shown_section}
use Rattle.steps.specs.Steps.{Leaves}
use Rattle.steps.proofs.Law.{steps_are_calls}
use Rattle.form.specs.Forms.{Fills}
use Rattle.form.proofs.Filled.{called, refused_early, refused_late, done}
use Rattle.form.proofs.open.OpenForm.fill.Goals as goal

pub returns-in_err-working : goal.returns-in_err-working
returns-in_err-working g c k s says each =
    let known = g.L.TypeLibrary.known c.args.library.now in
    let d = c.args.dictionary.now in
    let buffer = c.args.buffer.now in
    let f = c.args.self.now in
    let law = steps_are_calls known (g.met.L.TypeLibrary.lawful c.args.library.now) d buffer c.works_on.ensures.bytes in
    let p = err_from_is_err_and c.from_residual.result c.from_residual.ensures.1 in
    subst (λ r. Fills known (dictionary_of d) (called known d buffer law f k s says) r f f buffer buffer) (sym p.1) (rw p.2 (refused_early known d buffer law f k s says c.in_err-working.field-0.0 c.in_err-working.ensures.value))

pub returns-in_err-self : goal.returns-in_err-self
returns-in_err-self g c k s says each =
    let known = g.L.TypeLibrary.known c.args.library.now in
    let d = c.args.dictionary.now in
    let buffer = c.args.buffer.now in
    let f = c.args.self.now in
    let w = c.in_ok-working.working in
    let on = c.in_ok-working.ensures.value in
    let new = c.step.new.arg3 in
    let law = steps_are_calls known (g.met.L.TypeLibrary.lawful c.args.library.now) d buffer c.works_on.ensures.bytes in
    let here : Leaves (s (g.L.TypeLibrary.known w.library.now) (template_of (shown_section w.section)) w.form.version w.form.length buffer) (Err c.in_err-self.field-0.0) buffer new = rw c.in_err-self.was at (each _ _ _ _ c.step.ensures) in
    let left : Leaves (s known (template_of (shown_section w.section)) f.numbers.version f.numbers.length buffer) (Err c.in_err-self.field-0.0) buffer new = rw on.2 at (rw on.1 at here) in
    let p = err_from_is_err_and c.from_residual-in_err-self.result c.from_residual-in_err-self.ensures.1 in
    subst (λ r. Fills known (dictionary_of d) (called known d buffer law f k s says) r f f buffer new) (sym p.1) (rw p.2 (refused_late known d buffer law f k s says (shown_section w.section) c.in_err-self.field-0.0 new on.0 left))

pub returns : goal.returns
returns g c k s says each =
    let known = g.L.TypeLibrary.known c.args.library.now in
    let d = c.args.dictionary.now in
    let buffer = c.args.buffer.now in
    let f = c.args.self.now in
    let w = c.in_ok-working.working in
    let on = c.in_ok-working.ensures.value in
    let new = c.step.new.arg3 in
    let law = steps_are_calls known (g.met.L.TypeLibrary.lawful c.args.library.now) d buffer c.works_on.ensures.bytes in
    let here : Leaves (s (g.L.TypeLibrary.known w.library.now) (template_of (shown_section w.section)) w.form.version w.form.length buffer) (Ok c.in_ok-self.field-0) buffer new = rw c.in_ok-self.was at (each _ _ _ _ c.step.ensures) in
    let left : Leaves (s known (template_of (shown_section w.section)) f.numbers.version f.numbers.length buffer) (Ok c.in_ok-self.field-0) buffer new = rw on.2 at (rw on.1 at here) in
    done known d buffer law f k s says (shown_section w.section) c.in_ok-self.field-0 _ new refl on.0 left
