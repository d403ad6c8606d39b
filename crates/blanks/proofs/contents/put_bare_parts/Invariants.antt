use Rattle.std.proofs.Common.{◌≡◌, ◌+◌, length}
use Rattle.schema.specs.Seen.{seen_parts}
use Rattle.lines.specs.Held.{parts_in}
use Rattle.lines.specs.Walks.{seen_parts_left}
use Rattle.moves.specs.Moves.{patched}
use Rattle.blanks.specs.Blanks.{bare_parts}
use Rattle.blanks.proofs.contents.put_bare_parts.Given as goal

-- what is left to write gives what the whole gives, and ends where the whole ends
abbrev pub invariant-loop : goal.invariant-loop
invariant-loop l =
    let left = bare_parts (seen_parts_left l.iterator') in
    let whole = bare_parts (seen_parts l.u (parts_in l.fn.lines)) in
    (l.place + length left ≡ l.p + length whole)
    × (length l.buffer ≡ length l.initial.buffer)
    × (patched l.place left l.buffer ≡ patched l.p whole l.initial.buffer)
