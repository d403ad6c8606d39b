use Rattle.std.proofs.Common.{◌+◌, ◌-◌, length, arith}
use Rattle.moves.proofs.Patches.{part_put}
use Rattle.moves.proofs.put.Goals as goal

pub returns : goal.returns
returns c =
    let h = c.requires in
    let r = part_put c.args.p (c.args.p + length c.args.x.now - c.args.p) c.args.x.now c.copy_from_slice.new.self c.args.buffer.now c.copy_from_slice.ensures.after (omega arith) (omega arith) in
    record { value = r.0; len = r.1 }
