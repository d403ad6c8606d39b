use Rattle.std.proofs.Common.{length, ap, ◌∙◌, arith, length-drop}
use Rattle.judging.proofs.rules.Rules.check_behind_root.Goals as goal

pub check_parts-requires : goal.check_parts-requires
check_parts-requires g c =
    let long = ap length c.beyond.ensures ∙ length-drop c.in_ok-n.n c.args.bytes.now in
    let fits = c.in_ok-n.ensures.within in
    omega (arith, long)
