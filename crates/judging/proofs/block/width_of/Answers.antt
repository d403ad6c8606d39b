use Rattle.judging.proofs.Blocks.{width_bound}
use Rattle.judging.proofs.block.width_of.Goals as goal

pub returns-clause-bound : goal.returns-clause-bound
returns-clause-bound g c =
    rw c.unwrap_or.ensures rw c.width.ensures
    (width_bound (g.L.TypeLibrary.known c.args.library.now c.args.f.number c.args.f.argument.now) (g.met.L.TypeLibrary.lawful c.args.library.now c.args.f.number c.args.f.argument.now))
