use Rattle.std.proofs.Common.{◌+◌, [], ◌∷◌, refl, ap, ◌∙◌, arith}
use Rattle.lines.specs.Walks.{seen_parts_left}
use Rattle.blanks.specs.Blanks.{bare_parts}
use Rattle.blanks.proofs.Bare.{onward}
use Rattle.blanks.proofs.contents.put_bare_parts.Goals as goal

pub loop-preserved : goal.loop-preserved
loop-preserved c =
    let room = c.requires in
    let kept = c.loop.invariant.1 in
    let r = onward c.loop.place (c.loop.place + 1) _ (0 ∷ []) (bare_parts (seen_parts_left c.next.new.self)) _ c.loop.buffer c.put_byte.new.buffer _
    (ap bare_parts c.in-Some.ensures.steps.0.0) c.loop.invariant.0 (omega (arith, room, kept)) c.loop.invariant.2 c.put_byte.ensures.value refl in
    (r.ends, c.put_byte.ensures.len ∙ kept, r.gives)
