use Rattle.std.proofs.Common.{◌≡◌, ◌+◌, ◌*◌, ◌^◌, ◌≤◌, length}
use Rattle.schema.specs.Seen.{seen_parts}
use Rattle.lines.specs.Held.{parts_in}
use Rattle.lines.specs.Walks.{seen_parts_left}
use Rattle.places.specs.Places.{part_at}
use Rattle.places.proofs.parts.part_at.Given as goal

-- what is left has the data that the whole has; behind the end of the bytes a data takes 1 byte, and its line 9
abbrev pub invariant-loop-part : goal.invariant-loop-part
invariant-loop-part l =
    (part_at l.u l.fn.bytes l.at (seen_parts_left l.part-iterator) l.tag ≡ part_at l.u l.fn.bytes l.place (seen_parts l.u (parts_in l.fn.lines)) l.tag)
    × (9 * l.at + length l.part-iterator.parts.lines.rest.now ≤ 9 * (2 ^ 63 + 2 ^ 62) + length l.fn.lines)
    × (length l.part-iterator.parts.lines.rest.now ≤ length l.fn.lines)
