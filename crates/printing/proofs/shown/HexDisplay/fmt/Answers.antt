use Rattle.std.proofs.Common.{is_ok, ap}
use Rattle.std.proofs.Output.{has_written_of_eq, has_written_append}
use Rattle.printing.proofs.Pairs.{one_more}
use Rattle.printing.proofs.shown.HexDisplay.fmt.Goals as goal

pub loop-b-preserved : goal.loop-b-preserved
loop-b-preserved g c plain =
    let x = c.loop-b.invariant plain in
    let told = c.put_pair.ensures x.plain (ap is_ok c.in_ok-put_pair.was) in
    has_written_of_eq g.W.Write.write_str_gives _ _ _ _ (one_more c.args.self.now.0.now c.loop-b.b-index c.loop-b-test.true) (has_written_append g.W.Write.write_str_gives _ _ _ _ _ x told)
