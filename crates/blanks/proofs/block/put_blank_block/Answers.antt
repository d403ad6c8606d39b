use Rattle.std.proofs.Common.{length, ◌∙◌, arith}
use Rattle.dictionary.specs.Shown.{shown_field}
use Rattle.lines.specs.Walks.{seen_fields_left}
use Rattle.blanks.proofs.Blocks.{field_room, field_more}
use Rattle.blanks.proofs.block.put_blank_block.Goals as goal

pub put_blank_field-at-requires-clause-room : goal.put_blank_field-at-requires-clause-room
put_blank_field-at-requires-clause-room g c =
    let known = g.L.TypeLibrary.known c.args.library.now in
    let lawful = g.met.L.TypeLibrary.lawful c.args.library.now in
    let room = c.requires.room in
    let kept = c.loop-field.invariant.1 in
    (field_room known lawful c.args.base c.loop-field.at (shown_field c.in-Some.field) _ _ c.args.size (length c.loop-field.buffer) c.in-Some.ensures.steps.0.0 c.loop-field.invariant.0 (omega (arith, room, kept))).2

pub loop-field-preserved : goal.loop-field-preserved
loop-field-preserved g c =
    let known = g.L.TypeLibrary.known c.args.library.now in
    let lawful = g.met.L.TypeLibrary.lawful c.args.library.now in
    let room = c.requires.room in
    let kept = c.loop-field.invariant.1 in
    let r = field_more known lawful c.args.base c.loop-field.at c.put_blank_field-at.result (shown_field c.in-Some.field) (seen_fields_left c.next.new.self) _ c.args.size c.loop-field.buffer c.put_blank_field-at.new.buffer _
    c.in-Some.ensures.steps.0.0 c.loop-field.invariant.0 (omega (arith, room, kept)) c.put_blank_field-at.ensures.value c.put_blank_field-at.ensures.end c.loop-field.invariant.2 in
    (r.0, c.put_blank_field-at.ensures.len ∙ kept, r.1)
