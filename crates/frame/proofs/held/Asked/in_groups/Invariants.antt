use Rattle.std.proofs.Common.{◌≡◌, ◌+◌, ◌*◌, ◌≤◌, length}
use Rattle.message.specs.Messages.{stated_root}
use Rattle.message.specs.Spots.{group_spot}
use Rattle.lines.specs.Held.{groups_in}
use Rattle.lines.specs.Walks.{groups_left}
use Rattle.frame.proofs.held.Asked.in_groups.Given as goal

-- what is left gives what the whole gives; behind the end of the bytes a group takes 3 bytes, and its line 8
abbrev pub invariant-loop-group : goal.invariant-loop-group
invariant-loop-group l =
    let bs = l.self.bytes.now in
    let left = length l.group-iterator.lines.rest.now in
    (group_spot l.self.version bs l.place (groups_left l.group-iterator) l.self.group l.self.index l.self.tag ≡ group_spot l.self.version bs (12 + stated_root bs) (groups_in l.lines) l.self.group l.self.index l.self.tag)
    × (8 * l.place + 3 * left ≤ 8 * (length bs + 16777216) + 3 * length l.lines)
    × (left ≤ length l.lines)
