use Rattle.std.proofs.Common.{length, arith}
use Rattle.lines.specs.Walks.{group_at, groups_left}
use Rattle.frame.specs.Spots.{shown_spot}
use Rattle.frame.proofs.Heads.{length_narrow, count_few}
use Rattle.frame.proofs.Onward.{stepped, group_on}
use Rattle.frame.proofs.walking.Walk.group_step.Goals as goal

pub returns : goal.returns
returns g c =
    let known = g.L.TypeLibrary.known c.args.self.now.library.now in
    let bs = c.args.self.now.bytes.now in
    let a = shown_spot c.args.at in
    let less = c.requires.here.0.1 in
    stepped known bs a _ _ _ c.group_item.ensures c.entered.ensures
    (group_on known bs a (group_at c.args.group) (groups_left c.args.behind) (length c.args.behind.lines.rest.now) c.requires.room c.requires.behind c.requires.last c.requires.here.0.0 (omega arith)
    (length_narrow bs a.place c.seen.ensures) (count_few bs a.place c.seen.ensures))
