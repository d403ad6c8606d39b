use Rattle.schema.proofs.Exact.{passes_exactly}
use Rattle.dictionary.proofs.checking.check.Goals as goal

pub returns : goal.returns
returns g c =
    record {
      value = c.judge.ensures;
      exact = passes_exactly (g.L.TypeLibrary.known c.args.library.now) c.args.dictionary.now c.seen.ensures;
    }
