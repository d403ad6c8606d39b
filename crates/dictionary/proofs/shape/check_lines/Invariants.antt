use Rattle.std.proofs.Common.{length}
use Rattle.dictionary.proofs.Gathering.{Reached}
use Rattle.dictionary.proofs.shape.check_lines.Given as goal

abbrev pub invariant-loop-line : goal.invariant-loop-line
invariant-loop-line l = Reached l.body l.place l.at l.lines.rest.now

abbrev pub decreases-loop-line : goal.decreases-loop-line
decreases-loop-line l = length l.lines.rest.now
