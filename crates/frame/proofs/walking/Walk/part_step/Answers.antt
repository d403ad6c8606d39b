use Rattle.std.proofs.Common.{length, refl, arith}
use Rattle.lines.specs.Walks.{data_at, seen_parts_left}
use Rattle.frame.specs.Spots.{shown_spot}
use Rattle.frame.proofs.Heads.{content_short}
use Rattle.frame.proofs.Onward.{stepped, part_on}
use Rattle.frame.proofs.walking.Walk.part_step.Goals as goal

pub returns : goal.returns
returns g c =
    let known = g.L.TypeLibrary.known c.args.self.now.library.now in
    let bs = c.args.self.now.bytes.now in
    let a = shown_spot c.args.at in
    let less = c.requires.here.0.1 in
    stepped known bs a _ _ _ c.part_item.ensures c.past_part.ensures
    (part_on known bs a (data_at c.args.part) (seen_parts_left c.args.behind) (length c.args.behind.parts.lines.rest.now) refl c.requires.room c.requires.behind c.requires.last c.requires.ended c.requires.here.0.0 (omega arith)
    (content_short bs a.place c.seen.ensures))
