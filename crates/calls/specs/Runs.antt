-- Lists of calls on one buffer, under one dictionary and one library: by the messages that they add up to, and by what each call finds in the buffer. Assumes nothing.
use Rattle.std.specs.Prelude.{ℕ, ◌≤◌, List, [], ◌∷◌, length, take, Some, None, Option}
use Rattle.types.specs.Kinds.{Known}
use Rattle.schema.specs.Reading.{dictionary_of}
use Rattle.message.specs.Messages.{Message}
use Rattle.calls.specs.Calls.{Call, begin, fill, close, reopen, Form, no_form, opened, closed, Numbers, by_messages, by_buffer, Outcome, asked, Answer, answer_of, form_after, buffer_after, message_after}

-- what one call leaves: its answer, and the buffer
pub record Turn : Type 0 where
  pub said : Answer
  pub left : List ℕ

-- what a list of calls leaves: what each call leaves, and at last the form and the buffer
pub record Run (A : Type 0) : Type 0 where
  pub turns : List Turn
  pub form : Form A
  pub buffer : List ℕ

-- a call and then a run
abbrev pub after_turn : {A : Type 0} → Turn → Run A → Run A
after_turn t r = record { turns = t ∷ r.turns; form = r.form; buffer = r.buffer }

module _ (known : Known) (s : List ℕ) where
  -- what comes of a call on a form that is its message, and of one on a form of plain numbers
  abbrev pub asked_by_messages : Form Message → List ℕ → Call → Outcome (Form Message)
  asked_by_messages st buffer k = asked known s by_messages (length buffer) st k

  abbrev pub asked_by_buffer : Form Numbers → List ℕ → Call → Outcome (Form Message)
  asked_by_buffer st buffer k = asked known s (by_buffer known s buffer) (length buffer) st k

  abbrev pub turn_of : List ℕ → Outcome (Form Message) → Turn
  turn_of buffer o = record { said = answer_of o; left = buffer_after known (dictionary_of s) buffer o }

  -- the calls by their messages
  abbrev pub run_by_messages : Form Message → List ℕ → List Call → Run Message
  run_by_messages st buffer [] = record { turns = []; form = st; buffer = buffer }
  run_by_messages st buffer (k ∷ ks) =
      after_turn (turn_of buffer (asked_by_messages st buffer k))
      (run_by_messages (message_after st (asked_by_messages st buffer k)) (buffer_after known (dictionary_of s) buffer (asked_by_messages st buffer k)) ks)

  -- the calls by what each finds in the buffer
  abbrev pub run_by_buffer : Form Numbers → List ℕ → List Call → Run Numbers
  run_by_buffer st buffer [] = record { turns = []; form = st; buffer = buffer }
  run_by_buffer st buffer (k ∷ ks) =
      after_turn (turn_of buffer (asked_by_buffer st buffer k))
      (run_by_buffer (form_after known (dictionary_of s) st (asked_by_buffer st buffer k)) (buffer_after known (dictionary_of s) buffer (asked_by_buffer st buffer k)) ks)

  -- the message that the calls add up to, from no form on
  abbrev pub message_left : List ℕ → List Call → Form Message
  message_left buffer ks = (run_by_messages no_form buffer ks).form

-- the frame that a form has closed in a buffer
abbrev pub closed_in : List ℕ → Form Numbers → Option (List ℕ)
closed_in buffer no_form = None
closed_in buffer (opened n) = None
closed_in buffer (closed n) = Some (take n.length buffer)

-- the closed frame that a list of calls leaves in front of a buffer, from no form on
abbrev pub frame_left : Known → List ℕ → List ℕ → List Call → Option (List ℕ)
frame_left known s buffer ks = closed_in (run_by_buffer known s no_form buffer ks).buffer (run_by_buffer known s no_form buffer ks).form

-- no open above a version
abbrev pub OpensUpTo : ℕ → List Call → Type 0
OpensUpTo v [] = Unit {0}
OpensUpTo v (begin template version ∷ ks) = (version ≤ v) × OpensUpTo v ks
OpensUpTo v (fill k ∷ ks) = OpensUpTo v ks
OpensUpTo v (close ∷ ks) = OpensUpTo v ks
OpensUpTo v (reopen ∷ ks) = OpensUpTo v ks
