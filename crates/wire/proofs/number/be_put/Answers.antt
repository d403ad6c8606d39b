use Rattle.std.proofs.Common.{reverse, length, ap, ◌∙◌}
use Rattle.wire.specs.Numbers.{be_value}
use Rattle.wire.proofs.Values.{be_value_of_bytes}
use Rattle.wire.proofs.number.be_put.Goals as goal

pub returns : goal.returns
returns c =
    let value = c.reverse.ensures.after ∙ ap reverse c.le_put.ensures.value in
    record { value = value; read = λ h. ap be_value value ∙ be_value_of_bytes (length c.args.out.now) c.args.n h }
