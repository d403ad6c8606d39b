use Rattle.std.proofs.Common.{refl}
use Rattle.schema.proofs.Exact.{passes_exactly}
use Rattle.message.proofs.FrameLaws.{frames_are_messages, editions_share_frames}
use Rattle.message.proofs.frames_carry_messages.Goals as goal

pub returns : goal.returns
returns c = record {
  value = refl;
  frames = λ known lawful. frames_are_messages known lawful (passes_exactly known);
  editions = λ known lawful. editions_share_frames known lawful (passes_exactly known);
}
