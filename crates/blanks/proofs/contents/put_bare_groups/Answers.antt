use Rattle.std.proofs.Common.{◌+◌, map, refl, ap, ◌∙◌, arith}
use Rattle.schema.specs.Seen.{seen_group, length_at}
use Rattle.lines.specs.Held.{fields_in}
use Rattle.lines.specs.Walks.{groups_left}
use Rattle.moves.specs.Moves.{patched}
use Rattle.blanks.specs.Blanks.{bare_group, bare_groups}
use Rattle.blanks.proofs.Bare.{onward}
use Rattle.blanks.proofs.contents.put_bare_groups.Goals as goal

pub loop-group-preserved : goal.loop-group-preserved
loop-group-preserved c =
    let room = c.requires in
    let kept = c.loop-group.invariant.1 in
    let size = length_at c.args.u c.in-Some.group.size (fields_in c.in-Some.group.lines.now) in
    let r = onward c.loop-group.place (c.loop-group.place + 3) _ (bare_group size) (bare_groups (map (seen_group c.args.u) (groups_left c.next.new.self))) _ c.loop-group.buffer c.put_bare_group.new.buffer _
    (ap (λ gs. bare_groups (map (seen_group c.args.u) gs)) c.in-Some.ensures.steps.0.0) c.loop-group.invariant.0 (omega (arith, room, kept)) c.loop-group.invariant.2
    (c.put_bare_group.ensures.value ∙ ap (λ n. patched c.loop-group.place (bare_group n) c.loop-group.buffer) c.length_at.ensures) refl in
    (r.ends, c.put_bare_group.ensures.len ∙ kept, r.gives)
