use Rattle.std.proofs.Common.{◌^◌, ◌<◌, length, arith, rules}
use Rattle.lines.specs.Walks.{data_at}
use Rattle.frame.proofs.Spots.{part_spot_on, part_near}
use Rattle.frame.proofs.held.Asked.in_parts.Goals as goal

pub loop-line-preserved : goal.loop-line-preserved
loop-line-preserved c =
    let bs = c.args.self.bytes.now in
    let at = c.loop-line.place in
    let short : length bs < 2 ^ 63 = search rules in
    let step = c.in-Some.ensures.steps in
    let q = c.data_end-place.ensures in
    let takes = step.1 in
    let within = c.loop-line.invariant.2 in (
      part_spot_on c.args.self.version bs at c.data_end-place.result _ _ (data_at c.in-Some.line) c.args.self.tag _ q.value c.if-line-self.false step.0 c.loop-line.invariant.0,
      part_near at c.data_end-place.result (length bs) _ _ (length c.args.lines.now) short q.most q.behind takes within c.loop-line.invariant.1,
      omega arith,
    )
