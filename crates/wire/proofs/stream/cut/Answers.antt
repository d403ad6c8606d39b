use Rattle.std.proofs.Common.{sym, subst}
use Rattle.wire.specs.Streams.{MakesUp}
use Rattle.wire.proofs.Fronts.{front_grows, front_makes_up}
use Rattle.wire.proofs.stream.cut.Goals as goal

pub returns : goal.returns
returns c =
    let s = c.args.stream.now in
    record {
      value = c.front.ensures;
      parts = subst (λ x. MakesUp x s) (sym c.front.ensures) (front_makes_up s);
      grows = front_grows s;
    }
