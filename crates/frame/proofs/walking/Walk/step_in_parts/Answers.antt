use Rattle.std.proofs.Common.{refl}
use Rattle.frame.specs.Spots.{shown_spot}
use Rattle.frame.proofs.Onward.{over, end_on}
use Rattle.frame.proofs.walking.Walk.step_in_parts.Goals as goal

pub returns-in-None : goal.returns-in-None
returns-in-None g c =
    let known = g.L.TypeLibrary.known c.args.self.now.library.now in
    let bs = c.args.self.now.bytes.now in
    let a = shown_spot c.args.at in
    over known bs a _ refl refl (end_on known bs a c.requires.room c.requires.behind c.requires.last c.requires.ended c.in-None.ensures.steps.0.0)
