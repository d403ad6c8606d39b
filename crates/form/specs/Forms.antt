-- What the calls on a form leave, in the words of the definitions. Assumes nothing.
use Rattle.std.specs.Prelude.{◌≡◌, ℕ, List, length, Ok, Err, Result}
use Rattle.wire.specs.declared.refusal.Refusal.{Refusal}
use Rattle.wire.specs.Refusals.{bind}
use Rattle.types.specs.Kinds.{Known}
use Rattle.schema.specs.Structure.{Template, Dictionary}
use Rattle.schema.specs.Reading.{template_of, dictionary_of}
use Rattle.message.specs.Messages.{Message, frame}
use Rattle.calls.specs.Calls.{Numbers, Fill, by_buffer, filling, numbers_of, laid}
use Rattle.steps.specs.Steps.{Left, after, working}
use Rattle.steps.specs.Laws.{StepsAreCalls}
use Rattle.filling.specs.Shown.{plain_numbers}
use Rattle.form.specs.declared.order_form.OrderForm.{OrderForm}
use Rattle.form.specs.declared.order_form.Open.{Open}

-- the plain numbers that a form is, open or closed
abbrev pub form_numbers : {S : Type 0} → OrderForm S → Numbers
form_numbers f = plain_numbers f.numbers

-- what a call that fills in does to the bytes: by a library, a template, the form's version and length, and the buffer
abbrev pub Step : Type 0
Step = Known → Template → ℕ → ℕ → List ℕ → Result Left Refusal

-- a call k is a step, where the buffer begins with the frame of the form n, if only the steps are the calls
abbrev pub IsStepOf : Fill → Step → Known → List ℕ → List ℕ → Numbers → Type 0
IsStepOf k step known s buffer n =
    StepsAreCalls known s buffer →
    after known (dictionary_of s) buffer (filling known s (by_buffer known s buffer) (length buffer) n k)
    ≡ bind (working known s buffer n) (λ t. step known (template_of t) n.version n.length buffer)

-- under the library `known` and the dictionary d
module _ (known : Known) (d : Dictionary) where
  -- a form that is opened holds the message, and the buffer begins with its frame, with the bytes behind that as they were; refused, every byte stands
  abbrev pub Opens : Result Message Refusal → Result (OrderForm Open) Refusal → List ℕ → List ℕ → Type 0
  Opens (Ok m) (Ok f) old new = (form_numbers f ≡ numbers_of known d m) × (new ≡ laid (frame known d m) old)
  Opens (Ok m) (Err e) old new = ⊥
  Opens (Err e) (Ok f) old new = ⊥
  Opens (Err e) (Err x) old new = (x ≡ e) × (new ≡ old)

  -- a form that is filled in holds the new message, and the buffer begins with its frame, with the bytes behind that as they were; refused, form and buffer stand
  abbrev pub Fills : Result Message Refusal → Result (Unit {0}) Refusal → OrderForm Open → OrderForm Open → List ℕ → List ℕ → Type 0
  Fills (Ok m) r f g old new = (r ≡ Ok tt) × (form_numbers g ≡ numbers_of known d m) × (new ≡ laid (frame known d m) old)
  Fills (Err e) r f g old new = (r ≡ Err e) × (g ≡ f) × (new ≡ old)

  -- a form that is closed or reopened holds the message that it held, and the buffer already begins with its frame; refused, the form comes back in the state that it had
  abbrev pub Changes : {S T : Type 0} → Result Message Refusal → Result (OrderForm T) (OrderForm S × Refusal) → OrderForm S → List ℕ → Type 0
  Changes (Ok m) (Ok f) g buffer = (form_numbers f ≡ numbers_of known d m) × (buffer ≡ laid (frame known d m) buffer)
  Changes (Ok m) (Err x) g buffer = ⊥
  Changes (Err e) (Ok f) g buffer = ⊥
  Changes (Err e) (Err x) g buffer = x ≡ (g, e)
