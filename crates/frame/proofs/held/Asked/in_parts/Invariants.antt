use Rattle.std.proofs.Common.{◌≡◌, ◌+◌, ◌*◌, ◌^◌, ◌≤◌, length}
use Rattle.message.specs.Messages.{stated_root}
use Rattle.message.specs.Lookup.{groups_end}
use Rattle.message.specs.Spots.{part_spot}
use Rattle.lines.specs.Held.{groups_in, parts_in}
use Rattle.lines.specs.Walks.{parts_left}
use Rattle.frame.proofs.held.Asked.in_parts.Given as goal

-- what is left has the data that the whole has; behind the end of the bytes a data takes 1 byte, and its line 9
abbrev pub invariant-loop-line : goal.invariant-loop-line
invariant-loop-line l =
    let bs = l.self.bytes.now in
    let left = length l.line-iterator.lines.rest.now in
    (part_spot l.self.version bs l.place (parts_left l.line-iterator) l.self.tag ≡ part_spot l.self.version bs (groups_end bs (12 + stated_root bs) (groups_in l.lines)) (parts_in l.lines) l.self.tag)
    × (9 * l.place + left ≤ 9 * (2 ^ 63 + 2 ^ 62) + length l.lines)
    × (left ≤ length l.lines)
