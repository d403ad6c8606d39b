-- The calls on a form: what each answers, and which message it leaves. Assumes nothing.
use Rattle.std.specs.Prelude.{◌≡◌, ℕ, ◌^◌, ◌<◌, Bool, false, ◌&&◌, List, ◌++◌, length, drop, Some, None, Ok, Err, Option, Result, nat_le}
use Rattle.wire.specs.declared.refusal.Reason.TheVariants as reason
use Rattle.wire.specs.declared.refusal.Refusal.{Refusal}
use Rattle.wire.specs.Bytes.{Bytes}
use Rattle.wire.specs.Refusals.{refusal, bind}
use Rattle.types.specs.Meanings.{Meaning, Sayable}
use Rattle.types.specs.Kinds.{Known}
use Rattle.schema.specs.Verdicts.{rule}
use Rattle.schema.specs.Structure.{Template, Dictionary}
use Rattle.schema.specs.Reading.{dictionary_of}
use Rattle.schema.specs.Seen.{template_at}
use Rattle.message.specs.Blocks.{is_absent}
use Rattle.message.specs.Frames.{View, Contents}
use Rattle.message.specs.Messages.{Message, view_of, frame, template_geometry, is_there}
use Rattle.message.specs.Fronts.{front_message}
use Rattle.calls.specs.Changes.{◌before◌, blank_contents, with_room, set_field, clear_field, append_entry, drop_entry, write_data, closing_verdict}

-- ---- calls

-- the calls that fill in an open form
pub data Fill : Type 0 where
  -- group, entry, tag, value
  set : ℕ → ℕ → ℕ → Meaning → Fill
  -- group, entry, tag
  clear : ℕ → ℕ → ℕ → Fill
  -- group
  append : ℕ → Fill
  remove : ℕ → Fill
  -- tag, bytes
  write : ℕ → List ℕ → Fill

pub data Call : Type 0 where
  -- template, version
  begin : ℕ → ℕ → Call
  fill : Fill → Call
  close : Call
  reopen : Call

-- a call that can be made: its numbers fit their types, a value is one and can be said, data are bytes
abbrev pub SayableFill : Fill → Type 0
SayableFill (set group entry tag m) = ((group < 2 ^ 32) × (entry < 2 ^ 64)) × (tag < 2 ^ 32) × (is_absent m ≡ false) × Sayable m
SayableFill (clear group entry tag) = ((group < 2 ^ 32) × (entry < 2 ^ 64)) × (tag < 2 ^ 32)
SayableFill (append group) = group < 2 ^ 32
SayableFill (remove group) = group < 2 ^ 32
SayableFill (write tag x) = (tag < 2 ^ 32) × Bytes x

abbrev pub SayableCall : Call → Type 0
SayableCall (begin template version) = (template < 2 ^ 16) × (version < 2 ^ 16)
SayableCall (fill k) = SayableFill k
SayableCall close = Unit {0}
SayableCall reopen = Unit {0}

-- ---- forms

-- no form, an open one, or a closed one, with what it holds
pub data Form (A : Type 0) : Type 0 where
  no_form : Form A
  opened : A → Form A
  closed : A → Form A

-- what a form in a buffer holds: the number of its template, its version, and the length of its frame
pub record Numbers : Type 0 where
  pub template : ℕ
  pub version : ℕ
  pub length : ℕ

-- how the message is found that a form holds
pub record HeldBy (A : Type 0) : Type 0 where
  pub template : A → ℕ
  pub version : A → ℕ
  pub message : A → Result Message Refusal

-- a form that is its message
abbrev pub by_messages : HeldBy Message
by_messages = record { template = λ m. m.template; version = λ m. m.version; message = λ m. Ok m }

-- the message is there, or else the buffer does not begin with the form's frame
abbrev pub or_not_this_form : Option Message → Result Message Refusal
or_not_this_form None = Err (refusal reason.NotThisForm 0 0)
or_not_this_form (Some m) = Ok m

-- a form of plain numbers, whose message the buffer begins with
abbrev pub by_buffer : Known → List ℕ → List ℕ → HeldBy Numbers
by_buffer known s buffer = record {
  template = λ n. n.template;
  version = λ n. n.version;
  message = λ n. or_not_this_form (front_message known s n.template n.version n.length buffer);
}

-- ---- what is asked of a form, and what comes of it

-- a call becomes something, or is refused, or is not in its turn
pub data Outcome (A : Type 0) : Type 0 where
  becomes : A → Outcome A
  refuses : Refusal → Outcome A
  out_of_turn : Outcome A

-- what an answer becomes
abbrev pub turned : {A B : Type 0} → (A → B) → Result A Refusal → Outcome B
turned f (Ok a) = becomes (f a)
turned f (Err e) = refuses e

-- a template can be opened at a version: it is there, and the version is not above the dictionary's
abbrev pub can_open : Dictionary → ℕ → ℕ → Bool
can_open d template version = nat_le version d.version && is_there (template_at d template version)

-- a new message by the template that was found
abbrev pub opened_by : Known → ℕ → ℕ → ℕ → Option Template → Result Message Refusal
opened_by known room template version None = Err (refusal reason.CannotOpen 0 0)
opened_by known room template version (Some t) = bind (with_room room (view_of known t) (blank_contents (view_of known t))) (λ c. Ok (record { template = template; version = version; contents = c }))

-- contents filled in
abbrev pub filled : ℕ → View → Contents → Fill → Result Contents Refusal
filled room v c (set group entry tag m) = set_field room v c group entry tag m
filled room v c (clear group entry tag) = clear_field room v c group entry tag
filled room v c (append group) = append_entry room v c group
filled room v c (remove group) = drop_entry room v c group
filled room v c (write tag x) = write_data room v c tag x

-- a message filled in, by the template that was found
abbrev pub filled_by : Known → ℕ → Fill → Message → Option Template → Result Message Refusal
filled_by known room k m None = Err (refusal reason.NotThisForm 0 0)
filled_by known room k m (Some t) = bind (filled room (view_of known t) m.contents k) (λ c. Ok (record { template = m.template; version = m.version; contents = c }))

-- a message closed, by the template that was found
abbrev pub closed_by : Known → Message → Option Template → Result Message Refusal
closed_by known m None = Err (refusal reason.NotThisForm 0 0)
closed_by known m (Some t) = closing_verdict (view_of known t) m.contents before Ok m

-- under the library `known` and the dictionary that the bytes s are
module _ (known : Known) (s : List ℕ) where
  -- open: in a buffer of `room` bytes
  abbrev pub opening : ℕ → ℕ → ℕ → Result Message Refusal
  opening room template version =
      rule (can_open (dictionary_of s) template version) reason.CannotOpen 0 0
      before template_geometry known s template version
      before opened_by known room template version (template_at (dictionary_of s) template version)

  module _ {A : Type 0} (held : HeldBy A) where
    -- the message of a form that a call works on: its template can be opened, types and geometry of that are right, and the message is there
    abbrev pub worked_on : A → Result Message Refusal
    worked_on a =
        rule (can_open (dictionary_of s) (held.template a) (held.version a)) reason.NotThisForm 0 0
        before template_geometry known s (held.template a) (held.version a)
        before held.message a

    abbrev pub filling : ℕ → A → Fill → Result Message Refusal
    filling room a k = bind (worked_on a) (λ m. filled_by known room k m (template_at (dictionary_of s) (held.template a) (held.version a)))

    abbrev pub closing : A → Result Message Refusal
    closing a = bind (worked_on a) (λ m. closed_by known m (template_at (dictionary_of s) (held.template a) (held.version a)))

    abbrev pub reopening : A → Result Message Refusal
    reopening a = worked_on a

    -- what comes of a call on a form, in a buffer of `room` bytes
    abbrev pub asked : ℕ → Form A → Call → Outcome (Form Message)
    asked room no_form (begin template version) = turned opened (opening room template version)
    asked room no_form (fill k) = out_of_turn
    asked room no_form close = out_of_turn
    asked room no_form reopen = out_of_turn
    asked room (opened a) (begin template version) = turned opened (opening room template version)
    asked room (opened a) (fill k) = turned opened (filling room a k)
    asked room (opened a) close = turned closed (closing a)
    asked room (opened a) reopen = out_of_turn
    asked room (closed a) (begin template version) = turned opened (opening room template version)
    asked room (closed a) (fill k) = out_of_turn
    asked room (closed a) close = out_of_turn
    asked room (closed a) reopen = turned opened (reopening a)

-- ---- what a call leaves

-- what a call says
pub data Answer : Type 0 where
  accepted : Answer
  refused : Refusal → Answer
  not_in_turn : Answer

abbrev pub answer_of : {A : Type 0} → Outcome A → Answer
answer_of (becomes a) = accepted
answer_of (refuses e) = refused e
answer_of out_of_turn = not_in_turn

-- a frame in front of a buffer: the bytes behind its end stand
abbrev pub laid : List ℕ → List ℕ → List ℕ
laid f buffer = f ++ drop (length f) buffer

-- under the library `known` and the dictionary d
module _ (known : Known) (d : Dictionary) where
  -- the plain numbers of a form that holds a message
  abbrev pub numbers_of : Message → Numbers
  numbers_of m = record { template = m.template; version = m.version; length = length (frame known d m) }

  abbrev pub form_of : Form Message → Form Numbers
  form_of no_form = no_form
  form_of (opened m) = opened (numbers_of m)
  form_of (closed m) = closed (numbers_of m)

  -- the form after a call: a refused one leaves it
  abbrev pub form_after : Form Numbers → Outcome (Form Message) → Form Numbers
  form_after old (becomes st) = form_of st
  form_after old (refuses e) = old
  form_after old out_of_turn = old

  -- a buffer with the frame of the form's message in front
  abbrev pub shown : Form Message → List ℕ → List ℕ
  shown no_form buffer = buffer
  shown (opened m) buffer = laid (frame known d m) buffer
  shown (closed m) buffer = laid (frame known d m) buffer

  -- the buffer after a call: a refused one leaves it
  abbrev pub buffer_after : List ℕ → Outcome (Form Message) → List ℕ
  buffer_after buffer (becomes st) = shown st buffer
  buffer_after buffer (refuses e) = buffer
  buffer_after buffer out_of_turn = buffer

-- the message after a call
abbrev pub message_after : Form Message → Outcome (Form Message) → Form Message
message_after old (becomes st) = st
message_after old (refuses e) = old
message_after old out_of_turn = old
