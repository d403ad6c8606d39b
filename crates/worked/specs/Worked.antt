-- The worked examples: a dictionary of 100 bytes, and frames under it. Assumes nothing.
use Rattle.std.specs.Prelude.{◌≡◌, ℕ, Bool, true, false, List, [], ◌∷◌, replicate, slice_set, Some, Ok, Err, Result}
use Rattle.wire.specs.declared.refusal.Reason.TheVariants as reason
use Rattle.wire.specs.declared.refusal.Refusal.{Refusal}
use Rattle.wire.specs.Refusals.{refusal, plain}
use Rattle.types.specs.Meanings.{Meaning, absent, unsigned, investor}
use Rattle.types.specs.Answers.{pattern_of}
use Rattle.base.specs.Known.{base_kinds}
use Rattle.schema.specs.Verdicts.{fine}
use Rattle.schema.specs.Reading.{verdict, dictionary_of}
use Rattle.message.specs.Frames.{Contents}
use Rattle.message.specs.Messages.{Message, frame, frame_verdict, message_of}
use Rattle.message.specs.Lookup.{means, frame_reading}
use Rattle.calls.specs.Calls.{set, append, write, Call, begin, fill, close, by_messages, opening, filling}
use Rattle.calls.specs.Runs.{frame_left, OpensUpTo}

-- schema 1, version 6, one template: number 7, root block 12 with fields 11, 54, 110 and 35121 (since 5), group 78 with field 80, data 5149
abbrev pub dictionary : List ℕ
dictionary = 1 ∷ 0 ∷ 100 ∷ 0 ∷ 1 ∷ 0 ∷ 6 ∷ 0 ∷ 93 ∷ 0 ∷ 7 ∷ 0 ∷ 0 ∷ 0 ∷ 12 ∷ 13 ∷ 1 ∷ 0 ∷ 0 ∷ 0 ∷ 11 ∷ 0 ∷ 0 ∷ 0 ∷ 0 ∷ 3 ∷ 1 ∷ 2 ∷ 14 ∷ 1 ∷ 0 ∷ 0 ∷ 0 ∷ 54 ∷ 0 ∷ 4 ∷ 0 ∷ 0 ∷ 7 ∷ 1 ∷ 49 ∷ 50 ∷ 13 ∷ 1 ∷ 0 ∷ 0 ∷ 0 ∷ 110 ∷ 0 ∷ 6 ∷ 0 ∷ 0 ∷ 2 ∷ 0 ∷ 1 ∷ 13 ∷ 1 ∷ 0 ∷ 0 ∷ 137 ∷ 49 ∷ 0 ∷ 8 ∷ 0 ∷ 5 ∷ 3 ∷ 0 ∷ 1 ∷ 8 ∷ 2 ∷ 0 ∷ 0 ∷ 0 ∷ 78 ∷ 0 ∷ 2 ∷ 13 ∷ 1 ∷ 0 ∷ 0 ∷ 0 ∷ 80 ∷ 0 ∷ 0 ∷ 0 ∷ 0 ∷ 2 ∷ 1 ∷ 0 ∷ 2 ∷ 3 ∷ 9 ∷ 4 ∷ 0 ∷ 0 ∷ 20 ∷ 29 ∷ 0 ∷ 0 ∷ 50 ∷ []

-- a frame of it at version 6
abbrev pub newest : List ℕ
newest = 32 ∷ 0 ∷ 80 ∷ 235 ∷ 12 ∷ 0 ∷ 7 ∷ 0 ∷ 1 ∷ 0 ∷ 6 ∷ 0 ∷ 5 ∷ 0 ∷ 0 ∷ 0 ∷ 49 ∷ 0 ∷ 0 ∷ 0 ∷ 44 ∷ 1 ∷ 0 ∷ 0 ∷ 2 ∷ 0 ∷ 1 ∷ 100 ∷ 0 ∷ 2 ∷ 79 ∷ 75 ∷ []

-- the same values at version 4, which has no field 35121
abbrev pub older : List ℕ
older = 28 ∷ 0 ∷ 80 ∷ 235 ∷ 8 ∷ 0 ∷ 7 ∷ 0 ∷ 1 ∷ 0 ∷ 4 ∷ 0 ∷ 5 ∷ 0 ∷ 0 ∷ 0 ∷ 49 ∷ 0 ∷ 0 ∷ 0 ∷ 2 ∷ 0 ∷ 1 ∷ 100 ∷ 0 ∷ 2 ∷ 79 ∷ 75 ∷ []

-- the frame with another byte at a place
abbrev pub altered : ℕ → ℕ → List ℕ
altered place byte = slice_set newest place byte

-- what both say: 5, 49, absent and, where it is there, 300; one entry with 100; the data OK
abbrev pub values : List Meaning → Contents
values more = record { root = unsigned 5 ∷ (unsigned 49 ∷ (absent ∷ more)); groups = ((unsigned 100 ∷ []) ∷ []) ∷ []; parts = (79 ∷ 75 ∷ []) ∷ [] }

abbrev pub message_6 : Message
message_6 = record { template = 7; version = 6; contents = values (unsigned 300 ∷ []) }

abbrev pub message_4 : Message
message_4 = record { template = 7; version = 4; contents = values [] }

-- a field of the root set to a number in the open message, in a buffer of 64 bytes
abbrev pub setting : ℕ → ℕ → Result Message Refusal
setting tag n = filling base_kinds dictionary by_messages 64 message_6 (set 0 0 tag (unsigned n))

-- the message with 65,535 at field 110
abbrev pub message_settled : Message
message_settled = record { template = 7; version = 6; contents = record { root = unsigned 5 ∷ (unsigned 49 ∷ (unsigned 65535 ∷ (unsigned 300 ∷ []))); groups = (values []).groups; parts = (values []).parts } }

-- a data of n bytes written
abbrev pub writing : ℕ → Result Message Refusal
writing n = filling base_kinds dictionary by_messages 128 message_4 (write 5149 (replicate n 7))

-- whether an answer is not refused
abbrev pub taken : {X : Type 0} → Result X Refusal → Bool
taken (Ok x) = true
taken (Err e) = false

-- the calls that fill in the worked message, with the field of version 5 or without it
abbrev pub calls : ℕ → List Call → List Call
calls version more =
    begin 7 version ∷ (fill (set 0 0 11 (unsigned 5)) ∷ (fill (set 0 0 54 (unsigned 49)) ∷ (fill (append 78) ∷ (fill (set 78 0 80 (unsigned 100)) ∷ (fill (write 5149 (79 ∷ 75 ∷ [])) ∷ more)))))

-- The worked examples of dictionaries and frames under the two libraries that ship.
pub record WorkedExamples : Type 0 where
  pub dictionary_passes : verdict base_kinds dictionary ≡ fine
  pub frame_is_accepted : frame_verdict base_kinds dictionary newest ≡ fine
  pub frame_reads : message_of base_kinds (dictionary_of dictionary) newest ≡ message_6
  pub frame_of_its_message : frame base_kinds (dictionary_of dictionary) message_6 ≡ newest
  pub older_frame : frame base_kinds (dictionary_of dictionary) message_4 ≡ older
  pub older_is_accepted : frame_verdict base_kinds dictionary older ≡ fine
  pub newer_field_is_absent : frame_reading base_kinds dictionary older 0 0 35121 ≡ Ok (means absent)
  pub padding_not_zero : frame_verdict base_kinds dictionary (altered 17 1) ≡ Err (refusal reason.Padding 17 0)
  pub code_not_listed : frame_verdict base_kinds dictionary (altered 16 51) ≡ Err (refusal reason.NoPattern 16 54)
  pub required_field_absent : frame_verdict base_kinds dictionary (altered 16 0) ≡ Err (refusal reason.RequiredAbsent 16 54)
  pub nobody_is_no_investor : pattern_of (base_kinds 66 []) (investor 0 0) ≡ Err (plain reason.NoSuchValue)

-- The worked examples of calls on a form under them.
pub record WorkedCalls : Type 0 where
  pub zero_names_absent : setting 110 0 ≡ Err (refusal reason.NoSuchValue 18 110)
  pub largest_is_taken : setting 110 65535 ≡ Ok message_settled
  pub all_bits_one_names_absent : setting 11 4294967295 ≡ Err (refusal reason.NoSuchValue 12 11)
  pub longest_data_is_taken : taken (writing 50) ≡ true
  pub longer_data_is_refused : writing 51 ≡ Err (refusal reason.Full 25 5149)
  pub open_needs_28_bytes : opening base_kinds dictionary 27 7 6 ≡ Err (refusal reason.NoRoom 28 0)
  pub open_takes_28_bytes : taken (opening base_kinds dictionary 28 7 6) ≡ true
  pub no_version_7 : opening base_kinds dictionary 64 7 7 ≡ Err (refusal reason.CannotOpen 0 0)
  pub calls_leave_the_frame : frame_left base_kinds dictionary (replicate 32 0) (calls 6 (fill (set 0 0 35121 (unsigned 300)) ∷ (close ∷ []))) ≡ Some newest
  pub calls_leave_the_older_frame : frame_left base_kinds dictionary (replicate 32 0) (calls 4 (close ∷ [])) ≡ Some older
  pub calls_keep_to_the_older_version : OpensUpTo 4 (calls 4 (close ∷ []))
