-- The calls, forms and answers of the code, as the definitions have them. Assumes nothing.
use Rattle.std.specs.Prelude.{ℕ, List, map, take, Ok, Err, Result}
use Rattle.wire.specs.declared.refusal.Refusal.{Refusal}
use Rattle.types.specs.Meanings.{meaning}
use Rattle.calls.specs.Calls as calls
use Rattle.calls.specs.Calls.{Numbers, begin, fill, close, reopen, set, clear, append, remove, write, no_form, opened, closed, accepted, refused, not_in_turn}
use Rattle.calls.specs.Runs.{Run}
use Rattle.form.specs.Forms.{form_numbers}
use Rattle.replay.specs.declared.asked.Call.{Call}
use Rattle.replay.specs.declared.asked.Call.TheVariants as call
use Rattle.replay.specs.declared.asked.Answer.{Answer}
use Rattle.replay.specs.declared.asked.Answer.TheVariants as answer
use Rattle.replay.specs.declared.held.Form.{Form}
use Rattle.replay.specs.declared.held.Form.TheVariants as form

-- a call, with a value as its meaning and data as their bytes
abbrev pub shown_call : Call → calls.Call
shown_call (call.Open template version) = begin template version
shown_call (call.Set group entry tag value) = fill (set group entry tag (meaning value))
shown_call (call.Clear group entry tag) = fill (clear group entry tag)
shown_call (call.Append group) = fill (append group)
shown_call (call.Drop group) = fill (remove group)
shown_call (call.Write tag content) = fill (write tag content.now)
shown_call call.Close = close
shown_call call.Reopen = reopen

-- a form, by its plain numbers
abbrev pub shown_form : Form → calls.Form Numbers
shown_form form.None = no_form
shown_form (form.Open f) = opened (form_numbers f)
shown_form (form.Closed f) = closed (form_numbers f)

abbrev pub shown_answer : Answer → calls.Answer
shown_answer answer.Accepted = accepted
shown_answer (answer.Refused e) = refused e
shown_answer answer.OutOfTurn = not_in_turn

-- the answer to a call that is made
abbrev pub answer_to : Result (Unit {0}) Refusal → Answer
answer_to (Ok x) = answer.Accepted
answer_to (Err e) = answer.Refused e

-- the calls that are made where there are n answers
abbrev pub made_calls : ℕ → List Call → List calls.Call
made_calls n ks = take n (map shown_call ks)

-- the answers of a run
abbrev pub answers_of : {A : Type 0} → Run A → List calls.Answer
answers_of r = map (λ t. t.said) r.turns
