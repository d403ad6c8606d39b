use Rattle.std.proofs.Common.{sym, ◌∙◌}
use Rattle.std.proofs.lemmas.Result.{err_from_is_err_and}
use Rattle.dictionary.proofs.Rounds.{passes_on, refused_at}
use Rattle.judging.specs.Steps.{header_verdict, template_step}
use Rattle.judging.proofs.PutTogether.{verdict_apart}
use Rattle.judging.proofs.judging.judge.Goals as goal

pub returns-in_err-check_header : goal.returns-in_err-check_header
returns-in_err-check_header g c =
    let known = g.L.TypeLibrary.known c.args.library.now in
    let s = c.args.dictionary.now in
    let bs = c.args.bytes.now in
    let p = err_from_is_err_and c.from_residual.result c.from_residual.ensures.1 in
    p.1 ∙ rw p.2 (sym (refused_at (header_verdict s bs) (template_step known c.args.closed s bs) _ (sym c.check_header.ensures ∙ c.in_err-check_header.was)) ∙ verdict_apart c.args.closed known s bs)

pub returns : goal.returns
returns g c =
    let known = g.L.TypeLibrary.known c.args.library.now in
    let s = c.args.dictionary.now in
    let bs = c.args.bytes.now in
    c.check_template.ensures
    ∙ sym (passes_on (header_verdict s bs) (template_step known c.args.closed s bs) _ (sym c.check_header.ensures ∙ c.in_ok-check_header.was))
    ∙ verdict_apart c.args.closed known s bs
