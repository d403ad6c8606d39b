-- The law over every list of calls. Assumes nothing.
use Rattle.std.specs.Prelude.{◌≡◌, ℕ, ◌<◌, ◌≤◌, false, List, [], map, length, take, Some, None, Ok, Err, Option, Result, ◌≢◌}
use Rattle.std.specs.List.{AllByRecursion}
use Rattle.wire.specs.declared.refusal.Reason.TheVariants as reason
use Rattle.wire.specs.declared.refusal.Refusal.{Refusal}
use Rattle.wire.specs.Bytes.{Bytes}
use Rattle.wire.specs.Refusals.{refusal}
use Rattle.types.specs.Meanings.{Meaning, absent}
use Rattle.types.specs.Kinds.{Known}
use Rattle.schema.specs.Verdicts.{fine}
use Rattle.schema.specs.Structure.{Group, Template}
use Rattle.schema.specs.Reading.{dictionary_of}
use Rattle.schema.specs.Seen.{find}
use Rattle.schema.specs.Editions.{EarlierEdition}
use Rattle.schema.specs.Laws.{Checked}
use Rattle.message.specs.Messages.{Message, frame, frame_verdict, stated_version, Stands, Closes}
use Rattle.message.specs.Lookup.{Reading, means, holds, lookup, not_found, frame_reading, message_reading}
use Rattle.calls.specs.Calls.{Call, SayableCall, no_form, opened, closed, form_of, refused}
use Rattle.calls.specs.Runs.{run_by_messages, run_by_buffer, message_left, frame_left, OpensUpTo}

-- ---- a run is what its messages say

-- From no form on, what each call finds in the buffer is the message that the calls before it add up to.
pub record IsWhatItsMessagesSay (known : Known) (s buffer : List ℕ) (ks : List Call) : Type 0 where
  -- each answer, and each byte of the buffer after each call
  pub turns : (run_by_buffer known s no_form buffer ks).turns ≡ (run_by_messages known s no_form buffer ks).turns
  -- the buffer at last, and the form: the numbers of the message that the calls add up to
  pub buffer_left : (run_by_buffer known s no_form buffer ks).buffer ≡ (run_by_messages known s no_form buffer ks).buffer
  pub form_left : (run_by_buffer known s no_form buffer ks).form ≡ form_of known (dictionary_of s) (message_left known s buffer ks)
  -- no call finds another form's bytes
  pub never_another_form : AllByRecursion (λ t. (e : Refusal) → t.said ≡ refused e → e.reason ≢ reason.NotThisForm) (run_by_buffer known s no_form buffer ks).turns
  -- the buffer keeps its length
  pub same_length : AllByRecursion (λ t. length t.left ≡ length buffer) (run_by_buffer known s no_form buffer ks).turns
  -- while there is a form, the buffer begins with the frame of its message, and a form may hold that
  pub open_begins : (m : Message) → message_left known s buffer ks ≡ opened m → take (length (frame known (dictionary_of s) m)) (run_by_buffer known s no_form buffer ks).buffer ≡ frame known (dictionary_of s) m
  pub closed_begins : (m : Message) → message_left known s buffer ks ≡ closed m → take (length (frame known (dictionary_of s) m)) (run_by_buffer known s no_form buffer ks).buffer ≡ frame known (dictionary_of s) m
  pub open_stands : (m : Message) → message_left known s buffer ks ≡ opened m → Stands false known (dictionary_of s) m
  pub closed_closes : (m : Message) → message_left known s buffer ks ≡ closed m → Closes known (dictionary_of s) m
  -- the closed frame that it leaves is that of the message
  pub closed_frame : (m : Message) → message_left known s buffer ks ≡ closed m → frame_left known s buffer ks ≡ Some (frame known (dictionary_of s) m)

-- ---- frames are equal exactly when messages are

-- Two lists under one dictionary that each leave their form closed: the frames that they leave are equal exactly when template, version and all values are.
pub record EqualExactlyWhenMessagesAre (known : Known) (s buffer buffer' : List ℕ) (ks ks' : List Call) (m m' : Message) : Type 0 where
  pub equal_messages : frame_left known s buffer ks ≡ frame_left known s buffer' ks' → m ≡ m'
  pub equal_frames : m ≡ m' → frame_left known s buffer ks ≡ frame_left known s buffer' ks'

abbrev pub FramesEqualExactlyWhenMessagesAre : Known → List ℕ → List ℕ → List Call → Type 0
FramesEqualExactlyWhenMessagesAre known s buffer ks =
    (buffer' : List ℕ) (ks' : List Call) → Bytes buffer' → AllByRecursion SayableCall ks' →
    (m m' : Message) → message_left known s buffer ks ≡ closed m → message_left known s buffer' ks' ≡ closed m' →
    EqualExactlyWhenMessagesAre known s buffer buffer' ks ks' m m'

-- ---- what closes is what calls can make

-- a list of calls on the buffer that leaves its form closed with the message
pub record MadeIn (known : Known) (s : List ℕ) (m : Message) (buffer : List ℕ) : Type 0 where
  pub calls : List Call
  pub sayable : AllByRecursion SayableCall calls
  pub left : message_left known s buffer calls ≡ closed m

-- a list of calls on some buffer that leaves its form closed with the message
pub record MadeByCalls (known : Known) (s : List ℕ) (m : Message) : Type 0 where
  pub buffer : List ℕ
  pub calls : List Call
  pub bytes : Bytes buffer
  pub sayable : AllByRecursion SayableCall calls
  pub left : message_left known s buffer calls ≡ closed m

-- a list of calls on some buffer that leaves the bytes as its closed frame
pub record LeftByCalls (known : Known) (s bs : List ℕ) : Type 0 where
  pub buffer : List ℕ
  pub calls : List Call
  pub bytes : Bytes buffer
  pub sayable : AllByRecursion SayableCall calls
  pub left : frame_left known s buffer calls ≡ Some bs

-- A message closes exactly if some list of calls leaves its form closed with it, and then one does on every buffer that its frame has room in; up to the dictionary's version, bytes are accepted exactly if some list of calls leaves them as its closed frame.
pub record WhatClosesIsWhatCallsMake (known : Known) (s : List ℕ) : Type 0 where
  pub made : (m : Message) → Closes known (dictionary_of s) m → (buffer : List ℕ) → Bytes buffer → length (frame known (dictionary_of s) m) ≤ length buffer → MadeIn known s m buffer
  pub closes : (m : Message) → MadeByCalls known s m → Closes known (dictionary_of s) m
  pub accepted_is_left : (bs : List ℕ) → Bytes bs → stated_version bs ≤ (dictionary_of s).version → frame_verdict known s bs ≡ fine → LeftByCalls known s bs
  pub left_is_accepted : (bs : List ℕ) → LeftByCalls known s bs → (frame_verdict known s bs ≡ fine) × (stated_version bs ≤ (dictionary_of s).version)

-- ---- editions read one another

-- what a reading gives, or else nothing
abbrev pub had_or : Result Reading Refusal → Reading → Reading
had_or (Ok r) nothing = r
had_or (Err e) nothing = nothing

-- how many entries a message has in the group with the tag, by the groups of its template
abbrev pub count_of : Option (List (List Meaning)) → ℕ
count_of None = 0
count_of (Some es) = length es

abbrev pub entries_had : List Group → Message → ℕ → ℕ
entries_had gs m tag = count_of (lookup (λ g. g.tag) [] gs m.contents.groups tag)

-- What the lines of the reader's template t read in the frame of a message of the writer's template w: what the message has there by the lines of the writer; absent, or a data without bytes, where the writer has no such line; in each group as many entries as the message has.
pub record ReadsWhatTheMessageHas (known : Known) (writer reader : List ℕ) (m : Message) (bs : List ℕ) (w t : Template) : Type 0 where
  pub root_fields : AllByRecursion (λ f. frame_reading known reader bs 0 0 f.tag ≡ Ok (had_or (message_reading (dictionary_of writer) m 0 0 f.tag) (means absent))) t.root.fields
  pub entry_fields : AllByRecursion (λ g. (entry : ℕ) → entry < entries_had w.groups m g.tag → AllByRecursion (λ f. frame_reading known reader bs g.tag entry f.tag ≡ Ok (had_or (message_reading (dictionary_of writer) m g.tag entry f.tag) (means absent))) g.block.fields) t.groups
  pub no_more_entries : AllByRecursion (λ g. (entry tag : ℕ) → entries_had w.groups m g.tag ≤ entry → frame_reading known reader bs g.tag entry tag ≡ not_found g.tag) t.groups
  pub parts : AllByRecursion (λ d. frame_reading known reader bs 0 0 d.tag ≡ Ok (had_or (message_reading (dictionary_of writer) m 0 0 d.tag) (holds []))) t.parts

-- What a reader makes of the closed frame that a list of calls leaves under the writer's dictionary: it is refused exactly where the reader has no template of that number.
pub record ReadBy (known : Known) (writer reader : List ℕ) (m : Message) (bs : List ℕ) : Type 0 where
  pub lacking : find m.template (dictionary_of reader).templates ≡ None → frame_verdict known reader bs ≡ Err (refusal reason.UnknownTemplate 6 0)
  pub accepted : (t : Template) → find m.template (dictionary_of reader).templates ≡ Some t → frame_verdict known reader bs ≡ fine
  pub reads : (w t : Template) → find m.template (dictionary_of writer).templates ≡ Some w → find m.template (dictionary_of reader).templates ≡ Some t → ReadsWhatTheMessageHas known writer reader m bs w t

abbrev pub FrameIsReadBy : Known → List ℕ → List ℕ → List ℕ → List Call → Type 0
FrameIsReadBy known writer reader buffer ks = (m : Message) (bs : List ℕ) → message_left known writer buffer ks ≡ closed m → frame_left known writer buffer ks ≡ Some bs → ReadBy known writer reader m bs

-- ---- editions answer alike

-- The same list on equal buffers, no open above the version of the earlier edition: all answers, and all bytes after each call, are equal.
abbrev pub AnswersAlike : Known → List ℕ → List ℕ → List ℕ → List Call → Type 0
AnswersAlike known earlier later buffer ks = OpensUpTo (dictionary_of earlier).version ks → run_by_buffer known earlier no_form buffer ks ≡ run_by_buffer known later no_form buffer ks

-- ---- the length of the buffer alone decides

-- The same list on two buffers: the answers are equal, call by call, and so is the message that the calls add up to.
pub record AnsweredTheSame (known : Known) (s buffer buffer' : List ℕ) (ks : List Call) : Type 0 where
  pub answers : map (λ t. t.said) (run_by_buffer known s no_form buffer ks).turns ≡ map (λ t. t.said) (run_by_buffer known s no_form buffer' ks).turns
  pub message : message_left known s buffer ks ≡ message_left known s buffer' ks

-- Of the buffer, only the length decides: on any bytes that are as many, the list is answered the same.
abbrev pub TheLengthAloneDecides : Known → List ℕ → List ℕ → List Call → Type 0
TheLengthAloneDecides known s buffer ks = (buffer' : List ℕ) → Bytes buffer' → length buffer' ≡ length buffer → AnsweredTheSame known s buffer buffer' ks

-- ---- the law

-- What holds of a list of calls from no form on, on a buffer of any bytes, under a dictionary that passes the check.
pub record KeepsTheLaw (known : Known) (s buffer : List ℕ) (ks : List Call) : Type 0 where
  pub is_what_its_messages_say : IsWhatItsMessagesSay known s buffer ks
  pub frames_equal_exactly_when_messages_are : FramesEqualExactlyWhenMessagesAre known s buffer ks
  pub what_closes_is_what_calls_make : WhatClosesIsWhatCallsMake known s
  pub later_editions_read_it : (later : List ℕ) → Checked known later → EarlierEdition (dictionary_of s) (dictionary_of later) → FrameIsReadBy known s later buffer ks
  pub earlier_editions_read_it : (earlier : List ℕ) → Checked known earlier → EarlierEdition (dictionary_of earlier) (dictionary_of s) → FrameIsReadBy known s earlier buffer ks
  pub later_editions_answer_alike : (later : List ℕ) → Checked known later → EarlierEdition (dictionary_of s) (dictionary_of later) → AnswersAlike known s later buffer ks
  pub earlier_editions_answer_alike : (earlier : List ℕ) → Checked known earlier → EarlierEdition (dictionary_of earlier) (dictionary_of s) → AnswersAlike known earlier s buffer ks
  pub the_length_alone_decides : TheLengthAloneDecides known s buffer ks

-- Every list of calls keeps the law.
abbrev pub EveryListKeepsTheLaw : Known → Type 0
EveryListKeepsTheLaw known = (s buffer : List ℕ) (ks : List Call) → Checked known s → Bytes buffer → AllByRecursion SayableCall ks → KeepsTheLaw known s buffer ks
