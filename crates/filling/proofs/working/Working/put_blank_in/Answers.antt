use Rattle.std.proofs.Common.{sym}
use Rattle.message.specs.Messages.{block_view}
use Rattle.blanks.specs.Blanks.{blank_block, block_in}
use Rattle.blanks.proofs.Blocks.{block_long}
use Rattle.filling.proofs.Blanks.{put_in_room, put_nowhere}
use Rattle.filling.proofs.working.Working.put_blank_in.Goals as goal

pub returns-then-is_within : goal.returns-then-is_within
returns-then-is_within g c =
    let w = c.args.self.now in
    let known = g.L.TypeLibrary.known w.library.now in
    let b = block_in w.form.version c.args.g.size c.args.g.lines.now in
    put_in_room c.args.p c.args.g.size (blank_block (block_view known b)) c.args.buffer.now c.put_blank_block.new.buffer (block_long known (g.met.L.TypeLibrary.lawful w.library.now) b c.requires) (sym c.if-is_within.ensures) c.put_blank_block.ensures.value

pub returns-else-is_within : goal.returns-else-is_within
returns-else-is_within g c =
    let w = c.args.self.now in
    let known = g.L.TypeLibrary.known w.library.now in
    let b = block_in w.form.version c.args.g.size c.args.g.lines.now in
    put_nowhere c.args.p c.args.g.size (blank_block (block_view known b)) c.args.buffer.now (block_long known (g.met.L.TypeLibrary.lawful w.library.now) b c.requires) (sym c.if-is_within.ensures)
