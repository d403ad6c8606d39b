use Rattle.std.proofs.Common.{true, Err, take, sym, ap, ◌∙◌}
use Rattle.std.proofs.lemmas.Result.{err_from_is_err_and}
use Rattle.message.specs.Messages.{verdict_when}
use Rattle.filling.specs.Shown.{shown_working}
use Rattle.filling.proofs.Fronts.{refused_then, passed_then, too_long, not_too_long}
use Rattle.filling.proofs.working.check_closed.Goals as goal

pub returns-in_err-judge : goal.returns-in_err-judge
returns-in_err-judge g c =
    let known = g.L.TypeLibrary.known c.args.library.now in
    let s = c.args.dictionary.now in
    let p = err_from_is_err_and c.from_residual-in_err-judge.result c.from_residual-in_err-judge.ensures.1 in
    p.1 ∙ rw p.2 (sym (refused_then _ _ (verdict_when true known s (take c.args.form.length c.args.buffer.now)) _ _ (sym c.working_section.ensures ∙ ap shown_working c.in_ok-working_section.was) (sym (c.judge.ensures ∙ ap (verdict_when true known s) c.upto.ensures) ∙ c.in_err-judge.was)))

pub returns-then-form-gt-LONGEST : goal.returns-then-form-gt-LONGEST
returns-then-form-gt-LONGEST g c =
    let known = g.L.TypeLibrary.known c.args.library.now in
    let s = c.args.dictionary.now in
    ap Err c.at.ensures ∙ sym (passed_then _ _ (verdict_when true known s (take c.args.form.length c.args.buffer.now)) _ (sym c.working_section.ensures ∙ ap shown_working c.in_ok-working_section.was) (sym (c.judge.ensures ∙ ap (verdict_when true known s) c.upto.ensures) ∙ c.in_ok-judge.was)
    ∙ too_long c.args.form.length c.if-form-gt-LONGEST.true)

pub returns : goal.returns
returns g c =
    let known = g.L.TypeLibrary.known c.args.library.now in
    let s = c.args.dictionary.now in
    sym (passed_then _ _ (verdict_when true known s (take c.args.form.length c.args.buffer.now)) _ (sym c.working_section.ensures ∙ ap shown_working c.in_ok-working_section.was) (sym (c.judge.ensures ∙ ap (verdict_when true known s) c.upto.ensures) ∙ c.in_ok-judge.was)
    ∙ not_too_long c.args.form.length c.if-form-gt-LONGEST.false)
