use Rattle.std.proofs.Common.{◌≡◌, ◌-◌, length, ap, ◌∙◌, arith, length-drop}
use Rattle.lines.specs.Walks.{group_at}
use Rattle.frame.proofs.Spots.{group_near, group_spot_on}
use Rattle.frame.proofs.held.Asked.in_groups.Goals as goal

pub loop-group-preserved : goal.loop-group-preserved
loop-group-preserved c =
    let bs = c.args.self.bytes.now in
    let at = c.loop-group.place in
    let long : length c.beyond.result.now ≡ length bs - at = ap length c.beyond.ensures ∙ length-drop at bs in
    let step = c.in-Some.ensures.steps.0 in
    let n = c.group_length-place.ensures in
    let takes = step.1 in
    let within = c.loop-group.invariant.2 in (
      group_spot_on c.args.self.version bs at c.group_length-place.result c.beyond.result.now _ _ (group_at c.in-Some.group) c.args.self.group c.args.self.index c.args.self.tag _ n.value c.beyond.ensures c.if-group-self.false step.0 c.loop-group.invariant.0,
      group_near at c.group_length-place.result (length bs) _ _ (length c.args.lines.now) n.most (λ h. n.none (omega arith)) takes within c.loop-group.invariant.1,
      omega arith,
    )
