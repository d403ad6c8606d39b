use Rattle.std.proofs.Common.{◌≡◌, ◌+◌, map, length}
use Rattle.schema.specs.Seen.{seen_group}
use Rattle.lines.specs.Held.{groups_in}
use Rattle.lines.specs.Walks.{groups_left}
use Rattle.moves.specs.Moves.{patched}
use Rattle.blanks.specs.Blanks.{bare_groups}
use Rattle.blanks.proofs.contents.put_bare_groups.Given as goal

-- what is left to write gives what the whole gives, and ends where the whole ends
abbrev pub invariant-loop-group : goal.invariant-loop-group
invariant-loop-group l =
    let left = bare_groups (map (seen_group l.u) (groups_left l.group-iterator)) in
    let whole = bare_groups (map (seen_group l.u) (groups_in l.fn.lines)) in
    (l.place + length left ≡ l.p + length whole)
    × (length l.buffer ≡ length l.initial.buffer)
    × (patched l.place left l.buffer ≡ patched l.p whole l.initial.buffer)
