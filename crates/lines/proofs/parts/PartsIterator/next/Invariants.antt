use Rattle.std.proofs.Common.{◌≡◌, ◌≤◌, length}
use Rattle.lines.specs.Walks.{parts_left}
use Rattle.lines.proofs.parts.PartsIterator.next.Given as goal

-- what is left holds what the whole holds
abbrev pub invariant-loop-line : goal.invariant-loop-line
invariant-loop-line l = (parts_left l.fn.self ≡ parts_left l.self) × (length l.self.lines.rest.now ≤ length l.fn.self.lines.rest.now)

abbrev pub decreases-loop-line : goal.decreases-loop-line
decreases-loop-line l = length l.self.lines.rest.now
