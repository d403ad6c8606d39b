use Rattle.std.proofs.Common.{length, sym, refl, ap, ◌∙◌, arith, length-drop}
use mir.Facts.{Fits-of_lt}
use Rattle.std.proofs.lemmas.Result.{err_from_is_err_and}
use Rattle.lines.specs.Walks.{data_at}
use Rattle.judging.proofs.Parts.{part_there, parts_more, parts_refused}
use Rattle.judging.proofs.rules.Rules.check_parts.Goals as goal

pub returns-in_err-n : goal.returns-in_err-n
returns-in_err-n g c =
    let p = err_from_is_err_and c.from_residual.result c.from_residual.ensures.1 in
    p.1 ∙ rw p.2 (parts_refused c.args.self.now.newer _ _ (data_at c.in-Some.part) c.loop-part.at c.loop-part.rest.now c.check_part.result _ _ refl c.in-Some.ensures.steps.0.0 c.check_part.ensures c.in_err-n.was c.loop-part.invariant.1)

pub overflow_add-at : goal.overflow_add-at
overflow_add-at g c =
    let fits = part_there c.in-Some.part.tag c.in-Some.part.longest c.loop-part.at c.in_ok-n.n c.loop-part.rest.now (sym c.check_part.ensures ∙ c.in_ok-n.was) in
    let stays = c.loop-part.invariant.0 in
    let room = c.requires in
    Fits-of_lt (omega arith)

pub loop-part-preserved : goal.loop-part-preserved
loop-part-preserved g c =
    let fits = part_there c.in-Some.part.tag c.in-Some.part.longest c.loop-part.at c.in_ok-n.n c.loop-part.rest.now (sym c.check_part.ensures ∙ c.in_ok-n.was) in
    let long = ap length c.beyond-rest.ensures ∙ length-drop c.in_ok-n.n c.loop-part.rest.now in
    let stays = c.loop-part.invariant.0 in (
      omega (arith, long),
      parts_more c.args.self.now.newer _ _ (data_at c.in-Some.part) c.loop-part.at c.in_ok-n.n c.loop-part.rest.now c.beyond-rest.result.now c.check_part.result _ refl c.in-Some.ensures.steps.0.0 c.check_part.ensures c.in_ok-n.was c.beyond-rest.ensures c.loop-part.invariant.1,
    )
