-- The law over every list of calls, put together.
use Rattle.std.proofs.Common.{◌≡◌, ℕ, ◌≤◌, true, List, length, Some, ap, ◌∙◌, arith}
use Rattle.wire.specs.Bytes.{Bytes}
use Rattle.types.specs.Kinds.{Known, AllLawful}
use Rattle.schema.specs.Verdicts.{fine}
use Rattle.schema.specs.Reading.{dictionary_of}
use Rattle.schema.specs.Laws.{Checked}
use Rattle.schema.proofs.Exact.{passes_exactly}
use Rattle.message.specs.Messages.{message_of, frame_verdict, stated_version}
use Rattle.message.proofs.Exact.{accepted_exactly}
use Rattle.calls.specs.Laws.{IsWhatItsMessagesSay, LeftByCalls, WhatClosesIsWhatCallsMake, EveryListKeepsTheLaw}
use Rattle.calls.proofs.RunLaws.{is_what_its_messages_say, frames_equal_exactly, frame_of_closed, closes, left_is_accepted}
use Rattle.calls.proofs.Alike.{alike}
use Rattle.calls.proofs.ReadAcross.{left_read_by_later, left_read_by_earlier}
use Rattle.calls.proofs.Reached.{made}
use Rattle.calls.proofs.Deciding.{the_length_alone_decides}

module _ (known : Known) (lawful : AllLawful known) where
  -- bytes that are accepted are the frame of a message that closes, and calls make that, on a buffer that is just long enough
  accepted_is_left : (s : List ℕ) → Checked known s → (bs : List ℕ) → Bytes bs → stated_version bs ≤ (dictionary_of s).version → frame_verdict known s bs ≡ fine → LeftByCalls known s bs
  accepted_is_left s c bs y l e =
      let exactly = accepted_exactly known lawful (passes_exactly known) true s c bs y l in
      let m = message_of known (dictionary_of s) bs in
      let long = ap length (exactly.written_again e) in
      let x = made known lawful s c m (exactly.stands e) bs (omega arith) in
      record {
        buffer = bs;
        calls = x.calls;
        bytes = y;
        sayable = x.sayable;
        left = frame_of_closed known lawful s c bs x.calls x.sayable m x.left ∙ ap Some (exactly.written_again e);
      }

  what_closes : (s : List ℕ) → Checked known s → WhatClosesIsWhatCallsMake known s
  what_closes s c = record {
    made = λ m h buffer _ fits. made known lawful s c m h buffer fits;
    closes = closes known lawful s c;
    accepted_is_left = accepted_is_left s c;
    left_is_accepted = left_is_accepted known lawful s c;
  }

  pub every_list_keeps_the_law : EveryListKeepsTheLaw known
  every_list_keeps_the_law s buffer ks c bytes sayable =
      let says : (d : List ℕ) → Checked known d → IsWhatItsMessagesSay known d buffer ks = λ d k. is_what_its_messages_say known lawful d k buffer ks sayable in
      record {
        is_what_its_messages_say = says s c;
        frames_equal_exactly_when_messages_are = frames_equal_exactly known lawful s c buffer ks sayable;
        what_closes_is_what_calls_make = what_closes s c;
        later_editions_read_it = λ later cl x. left_read_by_later known lawful s later c cl x buffer ks (says s c);
        earlier_editions_read_it = λ earlier ce x. left_read_by_earlier known lawful earlier s ce c x buffer ks (says s c);
        later_editions_answer_alike = λ later cl x. alike known s later c cl x buffer ks (says s c) (says later cl);
        earlier_editions_answer_alike = λ earlier ce x. alike known earlier s ce c x buffer ks (says earlier ce) (says s c);
        the_length_alone_decides = the_length_alone_decides known lawful s c buffer ks sayable (λ b. is_what_its_messages_say known lawful s c b ks sayable);
      }
