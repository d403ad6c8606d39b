use Rattle.std.proofs.Common.{◌≡◌, ◌+◌, ◌*◌, ◌≤◌, length}
use Rattle.message.specs.Messages.{stated_root}
use Rattle.message.specs.Lookup.{groups_end}
use Rattle.lines.specs.Held.{groups_in}
use Rattle.lines.specs.Walks.{groups_left}
use Rattle.frame.proofs.held.Asked.groups_end.Given as goal

-- what is left ends where the whole ends; behind the end of the bytes a group takes 3 bytes, and its line 8
abbrev pub invariant-loop : goal.invariant-loop
invariant-loop l =
    let bs = l.self.bytes.now in
    let left = length l.iterator'.lines.rest.now in
    (groups_end bs l.place (groups_left l.iterator') ≡ groups_end bs (12 + stated_root bs) (groups_in l.lines))
    × (8 * l.place + 3 * left ≤ 8 * (length bs + 16777216) + 3 * length l.lines)
    × (left ≤ length l.lines)
