use Rattle.std.proofs.Common.{◌≡◌, ◌+◌, length, sym, ap, ◌∙◌, subst, ap₂, arith, length-drop, rules}
use mir.Facts.{Fits-of_lt}
use Rattle.std.proofs.lemmas.Result.{err_from_is_err_and}
use Rattle.judging.specs.Steps.{groups_step, groups_seen, Within}
use Rattle.judging.proofs.Groups.{group_there, groups_more, groups_refused, groups_end, left_start}
use Rattle.judging.proofs.rules.Rules.check_groups.Goals as goal

pub loop-group-init : goal.loop-group-init
loop-group-init g c =
    let known = g.L.TypeLibrary.known c.args.self.now.library.now in
    let p : c.args.place + 0 ≡ c.args.place = omega arith in
    let all : c.into_iter-group-iterator.result.lines.rest.now ≡ c.args.lines.now = search rules in (
      omega arith,
      left_start _ _ (ap₂ (λ s q. groups_step c.args.self.now.closed c.args.self.now.newer (groups_seen known c.args.self.now.version s) q c.args.bytes.now) all p),
    )

pub returns-in_err-n : goal.returns-in_err-n
returns-in_err-n g c =
    let known = g.L.TypeLibrary.known c.args.self.now.library.now in
    let p = err_from_is_err_and c.from_residual.result c.from_residual.ensures.1 in
    let value = p.1 ∙ rw p.2 (groups_refused known c.args.self.now.version c.args.self.now.closed c.args.self.now.newer _ _ c.in-Some.group.lines.now c.in-Some.group.tag c.in-Some.group.size c.args.place c.loop-group.passed c.loop-group.rest.now c.check_group.result _ _ c.in-Some.ensures.steps.0.0 c.check_group.ensures.value c.in_err-n.was c.loop-group.invariant.1) in
    record { value = value; within = subst (λ x. Within x (length c.args.bytes.now)) (sym p.1) tt }

pub loop-group-preserved : goal.loop-group-preserved
loop-group-preserved g c =
    let known = g.L.TypeLibrary.known c.args.self.now.library.now in
    let there = group_there known c.args.self.now.version c.args.self.now.closed c.args.self.now.newer c.in-Some.group.tag c.in-Some.group.size c.in-Some.group.lines.now (c.args.place + c.loop-group.passed) c.in_ok-n.n c.loop-group.rest.now (sym c.check_group.ensures.value ∙ c.in_ok-n.was) in
    let fits = there.1 in
    let long = ap length c.beyond-rest.ensures ∙ length-drop c.in_ok-n.n c.loop-group.rest.now in
    let stays = c.loop-group.invariant.0 in (
      omega (arith, long),
      groups_more known c.args.self.now.version c.args.self.now.closed c.args.self.now.newer _ _ c.in-Some.group.lines.now c.in-Some.group.tag c.in-Some.group.size c.in_ok-n.n c.args.place c.loop-group.passed c.loop-group.rest.now c.beyond-rest.result.now c.check_group.result _ c.in-Some.ensures.steps.0.0 c.check_group.ensures.value c.in_ok-n.was c.beyond-rest.ensures c.loop-group.invariant.1,
    )

pub returns : goal.returns
returns g c =
    let known = g.L.TypeLibrary.known c.args.self.now.library.now in
    let stays = c.loop-group.invariant.0 in
    record {
      value = groups_end known c.args.self.now.version c.args.self.now.closed c.args.self.now.newer _ c.args.place c.loop-group.passed c.loop-group.rest.now _ c.in-None.ensures.steps.0.0 c.loop-group.invariant.1;
      within = omega arith;
    }

pub overflow_add-passed : goal.overflow_add-passed
overflow_add-passed g c =
    let known = g.L.TypeLibrary.known c.args.self.now.library.now in
    let there = group_there known c.args.self.now.version c.args.self.now.closed c.args.self.now.newer c.in-Some.group.tag c.in-Some.group.size c.in-Some.group.lines.now (c.args.place + c.loop-group.passed) c.in_ok-n.n c.loop-group.rest.now (sym c.check_group.ensures.value ∙ c.in_ok-n.was) in
    let fits = there.1 in
    let stays = c.loop-group.invariant.0 in
    let room = c.requires in
    Fits-of_lt (omega arith)
