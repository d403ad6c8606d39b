use Rattle.std.proofs.Common.{◌∙◌, arith}
use mir.Facts.{Fits-of_lt}
use Rattle.std.proofs.lemmas.Result.{err_from_is_err_and}
use Rattle.std.proofs.lemmas.Grind.{common_steps}
use Rattle.dictionary.specs.Shown.{shown_line}
use Rattle.dictionary.proofs.Gathering.{judged_at, reached_none, reached_more, reached_refused, reached_broken, reached_end}
use Rattle.dictionary.proofs.shape.check_lines.Goals as goal

pub loop-line-init : goal.loop-line-init
loop-line-init c = reached_none c.args.body.now c.of-lines.result.rest.now c.args.place c.of-lines.ensures

pub returns-in_err-at : goal.returns-in_err-at
returns-in_err-at c =
    let p = err_from_is_err_and c.from_residual.result c.from_residual.ensures.1 in
    let j = judged_at c.args.body.now c.part.result.now c.args.place c.loop-line.at (shown_line c.in-Some.line) c.judge_line.result c.part.ensures.value c.part.ensures.len c.judge_line.ensures in
    p.1 ∙ rw p.2 (reached_refused c.args.body.now c.loop-line.lines.rest.now c.next.new.self.rest.now c.args.place c.loop-line.at (shown_line c.in-Some.line) _ c.loop-line.invariant c.in-Some.ensures.steps.1.0 c.in-Some.ensures.steps.1.1 (j ∙ c.in_err-at.was))

pub overflow_add-at : goal.overflow_add-at
overflow_add-at c =
    let j = judged_at c.args.body.now c.part.result.now c.args.place c.loop-line.at (shown_line c.in-Some.line) c.judge_line.result c.part.ensures.value c.part.ensures.len c.judge_line.ensures in
    let more = reached_more c.args.body.now c.loop-line.lines.rest.now c.next.new.self.rest.now c.args.place c.loop-line.at c.in_ok-at.field-0 (shown_line c.in-Some.line) c.loop-line.invariant c.in-Some.ensures.steps.1.0 c.in-Some.ensures.steps.1.1 (j ∙ c.in_ok-at.was) in
    let low = more.0.within in
    let room = c.requires in
    Fits-of_lt (omega arith)

pub loop-line-preserved : goal.loop-line-preserved
loop-line-preserved c =
    let j = judged_at c.args.body.now c.part.result.now c.args.place c.loop-line.at (shown_line c.in-Some.line) c.judge_line.result c.part.ensures.value c.part.ensures.len c.judge_line.ensures in
    (reached_more c.args.body.now c.loop-line.lines.rest.now c.next.new.self.rest.now c.args.place c.loop-line.at c.in_ok-at.field-0 (shown_line c.in-Some.line) c.loop-line.invariant c.in-Some.ensures.steps.1.0 c.in-Some.ensures.steps.1.1 (j ∙ c.in_ok-at.was)).0

pub returns-then-is_empty : goal.returns-then-is_empty
returns-then-is_empty c = reached_end c.args.body.now c.loop-line.lines.rest.now c.args.place c.loop-line.at c.survey_of.result c.end.result c.loop-line.invariant (grind (arith, common_steps)) c.survey_of.ensures c.end.ensures

pub returns-else-is_empty : goal.returns-else-is_empty
returns-else-is_empty c = rw c.at.ensures (reached_broken c.args.body.now c.loop-line.lines.rest.now c.args.place c.loop-line.at c.loop-line.invariant c.in_default.ensures.steps.1.0 (grind (arith, common_steps)))
