use Rattle.std.proofs.Common.{sym, ap, ◌∙◌, subst, arith}
use Rattle.moves.specs.Moves.{patched}
use Rattle.message.specs.Messages.{block_view}
use Rattle.blanks.specs.Blanks.{Fitting, template_in, block_in, blank_block}
use Rattle.blanks.proofs.Bare.{contents_long, contents_put}
use Rattle.blanks.proofs.contents.put_blank_contents.Goals as goal

pub put_blank_block-requires : goal.put_blank_block-requires
put_blank_block-requires g c =
    let known = g.L.TypeLibrary.known c.args.library.now in
    let lawful = g.met.L.TypeLibrary.lawful c.args.library.now in
    let t = template_in c.args.u c.args.section in
    let long = contents_long known lawful t c.requires.fit in
    let size = c.length_at-size.ensures in
    let room = c.requires.room in
    record { room = omega (arith, long, size, room); fit = subst (λ n. Fitting known 0 t.root.fields n) (sym size) c.requires.fit }

pub put_bare_groups-end-requires : goal.put_bare_groups-end-requires
put_bare_groups-end-requires g c =
    let known = g.L.TypeLibrary.known c.args.library.now in
    let lawful = g.met.L.TypeLibrary.lawful c.args.library.now in
    let t = template_in c.args.u c.args.section in
    let long = contents_long known lawful t c.requires.fit in
    let size = c.length_at-size.ensures in
    let room = c.requires.room in
    let kept = c.put_blank_block.ensures.len in
    omega (arith, long, size, room, kept)

pub put_bare_parts-requires : goal.put_bare_parts-requires
put_bare_parts-requires g c =
    let known = g.L.TypeLibrary.known c.args.library.now in
    let lawful = g.met.L.TypeLibrary.lawful c.args.library.now in
    let t = template_in c.args.u c.args.section in
    let long = contents_long known lawful t c.requires.fit in
    let size = c.length_at-size.ensures in
    let room = c.requires.room in
    let kept = c.put_bare_groups-end.ensures.len ∙ c.put_blank_block.ensures.len in
    let end = c.put_bare_groups-end.ensures.end in
    omega (arith, long, size, room, kept, end)

pub returns : goal.returns
returns g c =
    let known = g.L.TypeLibrary.known c.args.library.now in
    let lawful = g.met.L.TypeLibrary.lawful c.args.library.now in
    let t = template_in c.args.u c.args.section in
    let size = c.length_at-size.ensures in
    let root = c.put_blank_block.ensures.value ∙ ap (λ n. patched 12 (blank_block (block_view known (block_in c.args.u n c.args.section.body.now))) c.args.buffer.now) size in
    record {
      value = contents_put known lawful t _ c.put_bare_groups-end.result c.args.buffer.now c.put_blank_block.new.buffer c.put_bare_groups-end.new.buffer c.put_bare_parts.new.buffer c.requires.fit c.requires.room size c.put_bare_groups-end.ensures.end root c.put_bare_groups-end.ensures.value c.put_bare_parts.ensures.value;
      len = c.put_bare_parts.ensures.len ∙ c.put_bare_groups-end.ensures.len ∙ c.put_blank_block.ensures.len;
    }
