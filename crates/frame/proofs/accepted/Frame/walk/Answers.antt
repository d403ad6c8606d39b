use Rattle.std.proofs.Common.{true}
use Rattle.schema.proofs.Exact.{passes_exactly}
use Rattle.message.proofs.FrameLaws.{frames_are_messages}
use Rattle.frame.proofs.accepted.Frame.walk.Goals as goal

pub returns : goal.returns
returns g c =
    let known = g.L.TypeLibrary.known c.args.library.now in
    let laws = frames_are_messages known (g.met.L.TypeLibrary.lawful c.args.library.now) (passes_exactly known) in
    record {
      items = c.begin.ensures.items;
      holds = c.begin.ensures.holds;
      through = λ checked accepted. laws.walked true c.args.self.now.dictionary.now checked c.args.self.now.bytes.now accepted;
    }
