use Rattle.std.proofs.Common.{◌≡◌, ◌+◌, length}
use Rattle.schema.specs.Seen.{seen_fields}
use Rattle.lines.specs.Held.{fields_in}
use Rattle.lines.specs.Walks.{seen_fields_left}
use Rattle.moves.specs.Moves.{patched}
use Rattle.blanks.specs.Blanks.{Fitting, blank_from}
use Rattle.blanks.proofs.block.put_blank_block.Given as goal

-- the fields that are left fit, and what is left to write gives what the whole gives
abbrev pub invariant-loop-field : goal.invariant-loop-field
invariant-loop-field g l =
    let known = g.L.TypeLibrary.known l.library in
    let fields = seen_fields_left l.field-iterator in
    Fitting known l.at fields l.size
    × (length l.buffer ≡ length l.initial.buffer)
    × (patched (l.base + l.at) (blank_from known l.at fields l.size) l.buffer ≡ patched l.base (blank_from known 0 (seen_fields l.u (fields_in l.fn.lines)) l.size) l.initial.buffer)
