-- The message that a buffer begins with, as a form of plain numbers finds it. Assumes nothing.
use Rattle.std.specs.Prelude.{ℕ, Bool, true, false, cond, ◌&&◌, List, length, take, Some, None, Ok, Err, Option, ◌==◌, nat_le}
use Rattle.types.specs.Kinds.{Known}
use Rattle.schema.specs.Verdicts.{Verdict}
use Rattle.schema.specs.Reading.{dictionary_of}
use Rattle.message.specs.Messages.{Message, stated_template, stated_version, verdict_when, message_of}

-- no rule is broken
abbrev pub is_fine : Verdict → Bool
is_fine (Ok x) = true
is_fine (Err e) = false

-- bytes are the frame of a message of the template at the version, with required fields absent or not
abbrev pub is_frame_of : Known → List ℕ → ℕ → ℕ → List ℕ → Bool
is_frame_of known s number version bs =
    (stated_template bs == number && stated_version bs == version)
    && (nat_le version (dictionary_of s).version && is_fine (verdict_when false known s bs))

-- the message of the template and the version whose frame of n bytes a buffer begins with; None where it begins with no such frame
abbrev pub front_message : Known → List ℕ → ℕ → ℕ → ℕ → List ℕ → Option Message
front_message known s number version n buffer =
    cond (nat_le n (length buffer) && is_frame_of known s number version (take n buffer))
    (Some (message_of known (dictionary_of s) (take n buffer)))
    None
