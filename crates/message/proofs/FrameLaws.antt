-- The laws of frames and messages, from the law that bytes pass the check exactly if they are a dictionary written out.
use Rattle.std.proofs.Common.{ℕ, List}
use Rattle.wire.specs.Bytes.{Bytes}
use Rattle.types.specs.Kinds.{Known, AllLawful}
use Rattle.schema.specs.Laws.{PassesExactlyAsWrittenOut}
use Rattle.message.specs.Laws.{FramesAreMessages, EditionsShareFrames}
use Rattle.message.proofs.Exact.{accepted_exactly, carried}
use Rattle.message.proofs.Fronts.{fronts_are_frames}
use Rattle.message.proofs.FrameReading.{reads_as_its_message}
use Rattle.message.proofs.Libraries.{taken_as_by_another}
use Rattle.message.proofs.Walking.{walked_through}
use Rattle.message.proofs.Across.{editions_read_one_another}
use Rattle.message.proofs.Says.{editions_say_the_same}

pub frames_are_messages : (known : Known) → AllLawful known → ((s : List ℕ) → Bytes s → PassesExactlyAsWrittenOut known s) → FramesAreMessages known
frames_are_messages known lawful exact = record {
  accepted_exactly = λ closed s c bs y l. accepted_exactly known lawful exact closed s c bs y l;
  carried = λ closed s c. carried known lawful exact closed s c;
  fronts = λ s c. fronts_are_frames known lawful exact s c;
  reads = λ closed s c bs e. reads_as_its_message known exact s c closed bs e;
  another = λ closed s c other bs e same. taken_as_by_another known exact s c closed other bs e same;
  walked = λ closed s c bs e. walked_through known exact s c closed bs e;
}

pub editions_share_frames : (known : Known) → AllLawful known → ((s : List ℕ) → Bytes s → PassesExactlyAsWrittenOut known s) → EditionsShareFrames known
editions_share_frames known lawful exact = record {
  read_one_another = λ earlier later ce cl x. editions_read_one_another known lawful exact earlier later ce cl x;
  say_the_same = λ earlier later ce cl x. editions_say_the_same known exact earlier later ce cl x;
}
