-- What is done to the bytes of a buffer is what the calls say, under every dictionary's bytes. Assumes nothing.
use Rattle.std.specs.Prelude.{◌≡◌, ℕ, false, List, length, Ok}
use Rattle.wire.specs.Refusals.{bind}
use Rattle.types.specs.Meanings.{Meaning}
use Rattle.types.specs.Kinds.{Known}
use Rattle.schema.specs.Reading.{template_of, dictionary_of}
use Rattle.message.specs.Blocks.{is_absent}
use Rattle.message.specs.Messages.{Message, frame}
use Rattle.calls.specs.Calls.{Fill, set, clear, append, remove, write, Numbers, by_buffer, opening, filling, closing, reopening, numbers_of, laid}
use Rattle.steps.specs.Steps.{working, set_step, clear_step, append_step, drop_step, write_step, open_step, close_step, after, verdict_of}

-- For a buffer of any bytes: each call leaves the length and the bytes that its step leaves, or is refused as that is.
pub record StepsAreCalls (known : Known) (s buffer : List ℕ) : Type 0 where
  pub opens : (number version : ℕ) → after known (dictionary_of s) buffer (opening known s (length buffer) number version) ≡ open_step known s buffer number version
  pub sets : (n : Numbers) (group entry tag : ℕ) (m : Meaning) → is_absent m ≡ false →
      after known (dictionary_of s) buffer (filling known s (by_buffer known s buffer) (length buffer) n (set group entry tag m))
      ≡ bind (working known s buffer n) (λ t. set_step known (template_of t) n.version n.length buffer group entry tag m)
  pub clears : (n : Numbers) (group entry tag : ℕ) →
      after known (dictionary_of s) buffer (filling known s (by_buffer known s buffer) (length buffer) n (clear group entry tag))
      ≡ bind (working known s buffer n) (λ t. clear_step known (template_of t) n.version n.length buffer group entry tag)
  pub appends : (n : Numbers) (group : ℕ) →
      after known (dictionary_of s) buffer (filling known s (by_buffer known s buffer) (length buffer) n (append group))
      ≡ bind (working known s buffer n) (λ t. append_step known (template_of t) n.version n.length buffer group)
  pub drops : (n : Numbers) (group : ℕ) →
      after known (dictionary_of s) buffer (filling known s (by_buffer known s buffer) (length buffer) n (remove group))
      ≡ bind (working known s buffer n) (λ t. drop_step known (template_of t) n.version n.length buffer group)
  pub writes : (n : Numbers) (tag : ℕ) (x : List ℕ) →
      after known (dictionary_of s) buffer (filling known s (by_buffer known s buffer) (length buffer) n (write tag x))
      ≡ bind (working known s buffer n) (λ t. write_step known (template_of t) n.version n.length buffer tag x)
  pub closes : (n : Numbers) → verdict_of (closing known s (by_buffer known s buffer) n) ≡ close_step known s buffer n
  pub reopens : (n : Numbers) → verdict_of (reopening known s (by_buffer known s buffer) n) ≡ bind (working known s buffer n) (λ _. Ok tt)
  -- a call that is not refused leaves template and version
  pub same_template : (n : Numbers) (k : Fill) (m : Message) → filling known s (by_buffer known s buffer) (length buffer) n k ≡ Ok m → (m.template ≡ n.template) × (m.version ≡ n.version)
  -- closing and reopening leave the numbers, and the buffer as it is
  pub closed_same : (n : Numbers) (m : Message) → closing known s (by_buffer known s buffer) n ≡ Ok m → (n ≡ numbers_of known (dictionary_of s) m) × (buffer ≡ laid (frame known (dictionary_of s) m) buffer)
  pub reopened_same : (n : Numbers) (m : Message) → reopening known s (by_buffer known s buffer) n ≡ Ok m → (n ≡ numbers_of known (dictionary_of s) m) × (buffer ≡ laid (frame known (dictionary_of s) m) buffer)
  -- a new message has the template and the version that were asked for
  pub opened_same : (number version : ℕ) (m : Message) → opening known s (length buffer) number version ≡ Ok m → (m.template ≡ number) × (m.version ≡ version)
