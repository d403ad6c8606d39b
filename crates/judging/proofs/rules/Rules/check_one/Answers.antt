use Rattle.std.proofs.Common.{length, ap, ◌∙◌, arith, length-take}
use Rattle.judging.proofs.rules.Rules.check_one.Goals as goal

pub check_padding-requires : goal.check_padding-requires
check_padding-requires g c =
    let long = ap length c.upto.ensures ∙ length-take c.saturating_sub-gap.result c.args.rest.now in
    omega (arith, long, c.saturating_sub-gap.ensures)
