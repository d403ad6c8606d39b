-- What one call leaves. Assumes nothing.
use Rattle.std.specs.Prelude.{◌≡◌, ℕ, List}
use Rattle.types.specs.Kinds.{Known}
use Rattle.schema.specs.Reading.{dictionary_of}
use Rattle.calls.specs.Calls as calls
use Rattle.calls.specs.Calls.{Numbers, answer_of, form_after, buffer_after}
use Rattle.calls.specs.Runs.{asked_by_buffer}
use Rattle.replay.specs.declared.asked.Answer.{Answer}
use Rattle.replay.specs.declared.held.Form.{Form}
use Rattle.replay.specs.Shown.{shown_form, shown_answer}

-- A call on a form leaves the form, the answer and the buffer that the definitions say.
pub record Turned (known : Known) (s : List ℕ) (st : calls.Form Numbers) (buffer : List ℕ) (k : calls.Call) (f : Form) (a : Answer) (new : List ℕ) : Type 0 where
  pub form_left : shown_form f ≡ form_after known (dictionary_of s) st (asked_by_buffer known s st buffer k)
  pub said : shown_answer a ≡ answer_of (asked_by_buffer known s st buffer k)
  pub buffer_left : new ≡ buffer_after known (dictionary_of s) buffer (asked_by_buffer known s st buffer k)
