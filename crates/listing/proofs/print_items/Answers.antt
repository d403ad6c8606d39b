use Rattle.base.specs.Known.{base_kinds}
use Rattle.frame.specs.Walked.{remaining}
use Rattle.listing.proofs.Steps.{fewer}
use Rattle.listing.proofs.print_items.Goals as goal

pub loop-line-smaller-in-Group : goal.loop-line-smaller-in-Group
loop-line-smaller-in-Group c =
    fewer base_kinds c.loop-line.teller.inside c.loop-line.teller.place (remaining base_kinds c.loop-line.walk) (remaining base_kinds c.next.new.self) _ _ _ c.next.ensures.item c.next.ensures.rest c.item_line.ensures c.in-Some.is

pub loop-line-smaller : goal.loop-line-smaller
loop-line-smaller c =
    fewer base_kinds c.loop-line.teller.inside c.loop-line.teller.place (remaining base_kinds c.loop-line.walk) (remaining base_kinds c.next.new.self) _ _ _ c.next.ensures.item c.next.ensures.rest c.item_line.ensures c.in-Some.is
