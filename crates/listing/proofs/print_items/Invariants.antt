use Rattle.std.proofs.Common.{length}
use Rattle.base.specs.Known.{base_kinds}
use Rattle.frame.specs.Walked.{remaining}
use Rattle.listing.proofs.print_items.Given as goal

-- each turn takes an item off those that are left
abbrev pub decreases-loop-line : goal.decreases-loop-line
decreases-loop-line l = length (remaining base_kinds l.walk)
