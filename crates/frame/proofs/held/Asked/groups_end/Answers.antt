use Rattle.std.proofs.Common.{◌≡◌, ◌-◌, length, ap, ◌∙◌, arith, length-drop}
use Rattle.frame.proofs.Spots.{group_near, groups_end_on}
use Rattle.frame.proofs.held.Asked.groups_end.Goals as goal

pub loop-preserved : goal.loop-preserved
loop-preserved c =
    let bs = c.args.self.bytes.now in
    let at = c.loop.place in
    let long : length c.beyond.result.now ≡ length bs - at = ap length c.beyond.ensures ∙ length-drop at bs in
    let step = c.in-Some.ensures.steps.0 in
    let n = c.group_length-place.ensures in
    let takes = step.1 in
    let within = c.loop.invariant.2 in (
      groups_end_on bs at c.group_length-place.result c.beyond.result.now _ _ _ _ n.value c.beyond.ensures step.0 c.loop.invariant.0,
      group_near at c.group_length-place.result (length bs) _ _ (length c.args.lines.now) n.most (λ h. n.none (omega arith)) takes within c.loop.invariant.1,
      omega arith,
    )
