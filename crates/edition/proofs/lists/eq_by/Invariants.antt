use Rattle.std.proofs.Common.{◌≡◌, Bool}
use Rattle.edition.specs.Same.{GoesOnBy}
use Rattle.edition.proofs.lists.eq_by.Given as goal

-- the earlier ones may go on, and what is left compares as the whole does
abbrev pub invariant-loop-a : goal.invariant-loop-a
invariant-loop-a g l =
    g.J.Iterator.can_next l.earlier
    × ((test : _ → _ → Bool) → GoesOnBy g.I.Iterator.next_gives g.J.Iterator.next_gives (goal.S-post g l.same) l.fn.later test → test l.a-iterator l.earlier ≡ test l.fn.later l.fn.earlier)
