use Rattle.std.proofs.Common.{◌∙◌}
use Rattle.moves.proofs.Patches.{paste_shifts}
use Rattle.moves.proofs.shift.Goals as goal

pub returns : goal.returns
returns c =
    let value = c.copy_within.ensures.after ∙ paste_shifts c.args.from c.args.end c.args.to c.args.buffer.now in
    record { value = value; len = c.copy_within.auto.self }
