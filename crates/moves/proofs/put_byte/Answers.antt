use Rattle.moves.proofs.Patches.{set_put}
use Rattle.moves.proofs.put_byte.Goals as goal

pub returns : goal.returns
returns c =
    let r = set_put c.args.p c.args.b c.args.buffer.now c.requires in
    record { value = r.0; len = r.1 }
