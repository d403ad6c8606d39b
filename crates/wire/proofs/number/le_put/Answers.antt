use Rattle.std.proofs.Common.{ap, ◌∙◌, arith}
use Rattle.wire.specs.Numbers.{le_bytes, le_value}
use Rattle.wire.proofs.Values.{put_step, put_all, le_value_of_bytes}
use Rattle.wire.proofs.number.le_put.Goals as goal

pub loop-b-preserved : goal.loop-b-preserved
loop-b-preserved c = put_step c.loop-b.out c.loop-b.b-index c.loop-b.left c.args.n (omega arith) c.loop-b.invariant

pub returns : goal.returns
returns c =
    let value =
    put_all c.loop-b.out c.loop-b.b-index c.loop-b.left c.args.n (omega arith) c.loop-b.invariant
    ∙ ap (λ n. le_bytes n c.args.n) c.loop-b.auto.out in
    record { value = value; read = λ h. ap le_value value ∙ le_value_of_bytes _ c.args.n h }
