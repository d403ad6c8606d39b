-- One call, from what the form's code leaves.
use Rattle.std.proofs.Common.{◌≡◌, ℕ, List, length, Ok, Err, Result, sym, refl, ap, subst}
use Rattle.wire.specs.declared.refusal.Refusal.{Refusal}
use Rattle.types.specs.Kinds.{Known}
use Rattle.schema.specs.Reading.{dictionary_of}
use Rattle.message.specs.Messages.{Message}
use Rattle.calls.specs.Calls as calls
use Rattle.calls.specs.Calls.{Numbers, Fill, begin, fill, close, reopen, no_form, opened, closed, by_buffer, opening, filling, closing, reopening, turned, answer_of, form_after, buffer_after}
use Rattle.form.specs.declared.order_form.OrderForm.{OrderForm}
use Rattle.form.specs.declared.order_form.Open.{Open}
use Rattle.form.specs.declared.order_form.Closed.{Closed}
use Rattle.form.specs.Forms.{form_numbers, Opens, Fills, Changes}
use Rattle.replay.specs.declared.asked.Answer.TheVariants as answer
use Rattle.replay.specs.declared.asked.Answer.{Answer}
use Rattle.replay.specs.declared.held.Form.{Form}
use Rattle.replay.specs.declared.held.Form.TheVariants as form
use Rattle.replay.specs.Shown.{shown_form, shown_answer, answer_to}
use Rattle.replay.specs.Turns.{Turned}

module _ (known : Known) (s buffer : List ℕ) where
  -- what comes of a call, told by its outcome
  record Done (st : calls.Form Numbers) (o : calls.Outcome (calls.Form Message)) (f : Form) (a : Answer) (new : List ℕ) : Type 0 where
    form_left : shown_form f ≡ form_after known (dictionary_of s) st o
    said : shown_answer a ≡ answer_of o
    buffer_left : new ≡ buffer_after known (dictionary_of s) buffer o

  told : (st : calls.Form Numbers) (k : calls.Call) (f : Form) (a : Answer) (new : List ℕ) → Done st (calls.asked known s (by_buffer known s buffer) (length buffer) st k) f a new → Turned known s st buffer k f a new
  told st k f a new d = record { form_left = d.form_left; said = d.said; buffer_left = d.buffer_left }

  -- ---- open

  opened_done : (st : calls.Form Numbers) (o : Result Message Refusal) (f : OrderForm Open) (new : List ℕ) → Opens known (dictionary_of s) o (Ok f) buffer new → Done st (turned opened o) (form.Open f) answer.Accepted new
  opened_done st (Ok m) f new h = record { form_left = ap opened h.0; said = refl; buffer_left = h.1 }
  opened_done st (Err e) f new h = absurd h

  not_opened_done : (old : Form) (o : Result Message Refusal) (x : Refusal) (new : List ℕ) → Opens known (dictionary_of s) o (Err x) buffer new → Done (shown_form old) (turned opened o) old (answer.Refused x) new
  not_opened_done old (Ok m) x new h = absurd h
  not_opened_done old (Err e) x new h = record { form_left = refl; said = ap calls.refused h.0; buffer_left = h.1 }

  opening_done : (st : calls.Form Numbers) (template version : ℕ) (f : Form) (a : Answer) (new : List ℕ) → Done st (turned opened (opening known s (length buffer) template version)) f a new → Turned known s st buffer (begin template version) f a new
  opening_done no_form template version f a new d = told no_form (begin template version) f a new d
  opening_done (opened n) template version f a new d = told (opened n) (begin template version) f a new d
  opening_done (closed n) template version f a new d = told (closed n) (begin template version) f a new d

  pub opens : (st : calls.Form Numbers) (template version : ℕ) (f : OrderForm Open) (r : Result (OrderForm Open) Refusal) (new : List ℕ) → r ≡ Ok f → Opens known (dictionary_of s) (opening known s (length buffer) template version) r buffer new → Turned known s st buffer (begin template version) (form.Open f) answer.Accepted new
  opens st template version f r new e h =
      let h' = subst (λ (x : Result (OrderForm Open) Refusal). Opens known (dictionary_of s) (opening known s (length buffer) template version) x buffer new) e h in
      opening_done st template version (form.Open f) answer.Accepted new (opened_done st (opening known s (length buffer) template version) f new h')

  pub opens_not : (old : Form) (template version : ℕ) (x : Refusal) (r : Result (OrderForm Open) Refusal) (new : List ℕ) → r ≡ Err x → Opens known (dictionary_of s) (opening known s (length buffer) template version) r buffer new → Turned known s (shown_form old) buffer (begin template version) old (answer.Refused x) new
  opens_not old template version x r new e h =
      let h' = subst (λ (y : Result (OrderForm Open) Refusal). Opens known (dictionary_of s) (opening known s (length buffer) template version) y buffer new) e h in
      opening_done (shown_form old) template version old (answer.Refused x) new (not_opened_done old (opening known s (length buffer) template version) x new h')

  -- ---- the calls that fill in

  filled_done : (o : Result Message Refusal) (r : Result (Unit {0}) Refusal) (f g : OrderForm Open) (new : List ℕ) → Fills known (dictionary_of s) o r f g buffer new → Done (opened (form_numbers f)) (turned opened o) (form.Open g) (answer_to r) new
  filled_done (Ok m) r f g new h = record { form_left = ap opened h.1; said = ap (λ (x : Result (Unit {0}) Refusal). shown_answer (answer_to x)) h.0; buffer_left = h.2 }
  filled_done (Err e) r f g new h = record { form_left = ap (λ (x : OrderForm Open). opened (form_numbers x)) h.1; said = ap (λ (x : Result (Unit {0}) Refusal). shown_answer (answer_to x)) h.0; buffer_left = h.2 }

  pub fills : (k : Fill) (old : Form) (f g : OrderForm Open) (r : Result (Unit {0}) Refusal) (a : Answer) (new : List ℕ) → old ≡ form.Open f → a ≡ answer_to r → Fills known (dictionary_of s) (filling known s (by_buffer known s buffer) (length buffer) (form_numbers f) k) r f g buffer new → Turned known s (shown_form old) buffer (fill k) (form.Open g) a new
  fills k old f g r a new e q h =
      let d = filled_done (filling known s (by_buffer known s buffer) (length buffer) (form_numbers f) k) r f g new h in
      let t = told (opened (form_numbers f)) (fill k) (form.Open g) (answer_to r) new d in
      subst (λ (x : Form). Turned known s (shown_form x) buffer (fill k) (form.Open g) a new) (sym e) (subst (λ (x : Answer). Turned known s (opened (form_numbers f)) buffer (fill k) (form.Open g) x new) (sym q) t)

  -- ---- close and reopen

  closed_done : (o : Result Message Refusal) (f : OrderForm Closed) (g : OrderForm Open) → Changes known (dictionary_of s) o (Ok f) g buffer → Done (opened (form_numbers g)) (turned closed o) (form.Closed f) answer.Accepted buffer
  closed_done (Ok m) f g h = record { form_left = ap closed h.0; said = refl; buffer_left = h.1 }
  closed_done (Err e) f g h = absurd h

  not_closed_done : (o : Result Message Refusal) (x : OrderForm Open × Refusal) (g : OrderForm Open) → Changes known (dictionary_of s) {T = Closed} o (Err x) g buffer → Done (opened (form_numbers g)) (turned closed o) (form.Open x.0) (answer.Refused x.1) buffer
  not_closed_done (Ok m) x g h = absurd h
  not_closed_done (Err e) x g h = record { form_left = ap (λ (y : OrderForm Open × Refusal). opened (form_numbers y.0)) h; said = ap (λ (y : OrderForm Open × Refusal). calls.refused y.1) h; buffer_left = refl }

  pub closes : (old : Form) (g : OrderForm Open) (f : OrderForm Closed) (r : Result (OrderForm Closed) (OrderForm Open × Refusal)) → old ≡ form.Open g → r ≡ Ok f → Changes known (dictionary_of s) (closing known s (by_buffer known s buffer) (form_numbers g)) r g buffer → Turned known s (shown_form old) buffer close (form.Closed f) answer.Accepted buffer
  closes old g f r e p h =
      let o = closing known s (by_buffer known s buffer) (form_numbers g) in
      let h' = subst (λ (y : Result (OrderForm Closed) (OrderForm Open × Refusal)). Changes known (dictionary_of s) o y g buffer) p h in
      subst (λ (x : Form). Turned known s (shown_form x) buffer close (form.Closed f) answer.Accepted buffer) (sym e) (told (opened (form_numbers g)) close (form.Closed f) answer.Accepted buffer (closed_done o f g h'))

  pub closes_not : (old : Form) (g : OrderForm Open) (x : OrderForm Open × Refusal) (r : Result (OrderForm Closed) (OrderForm Open × Refusal)) → old ≡ form.Open g → r ≡ Err x → Changes known (dictionary_of s) (closing known s (by_buffer known s buffer) (form_numbers g)) r g buffer → Turned known s (shown_form old) buffer close (form.Open x.0) (answer.Refused x.1) buffer
  closes_not old g x r e p h =
      let o = closing known s (by_buffer known s buffer) (form_numbers g) in
      let h' = subst (λ (y : Result (OrderForm Closed) (OrderForm Open × Refusal)). Changes known (dictionary_of s) o y g buffer) p h in
      subst (λ (y : Form). Turned known s (shown_form y) buffer close (form.Open x.0) (answer.Refused x.1) buffer) (sym e) (told (opened (form_numbers g)) close (form.Open x.0) (answer.Refused x.1) buffer (not_closed_done o x g h'))

  reopened_done : (o : Result Message Refusal) (f : OrderForm Open) (g : OrderForm Closed) → Changes known (dictionary_of s) o (Ok f) g buffer → Done (closed (form_numbers g)) (turned opened o) (form.Open f) answer.Accepted buffer
  reopened_done (Ok m) f g h = record { form_left = ap opened h.0; said = refl; buffer_left = h.1 }
  reopened_done (Err e) f g h = absurd h

  not_reopened_done : (o : Result Message Refusal) (x : OrderForm Closed × Refusal) (g : OrderForm Closed) → Changes known (dictionary_of s) {T = Open} o (Err x) g buffer → Done (closed (form_numbers g)) (turned opened o) (form.Closed x.0) (answer.Refused x.1) buffer
  not_reopened_done (Ok m) x g h = absurd h
  not_reopened_done (Err e) x g h = record { form_left = ap (λ (y : OrderForm Closed × Refusal). closed (form_numbers y.0)) h; said = ap (λ (y : OrderForm Closed × Refusal). calls.refused y.1) h; buffer_left = refl }

  pub reopens : (old : Form) (g : OrderForm Closed) (f : OrderForm Open) (r : Result (OrderForm Open) (OrderForm Closed × Refusal)) → old ≡ form.Closed g → r ≡ Ok f → Changes known (dictionary_of s) (reopening known s (by_buffer known s buffer) (form_numbers g)) r g buffer → Turned known s (shown_form old) buffer reopen (form.Open f) answer.Accepted buffer
  reopens old g f r e p h =
      let o = reopening known s (by_buffer known s buffer) (form_numbers g) in
      let h' = subst (λ (y : Result (OrderForm Open) (OrderForm Closed × Refusal)). Changes known (dictionary_of s) o y g buffer) p h in
      subst (λ (x : Form). Turned known s (shown_form x) buffer reopen (form.Open f) answer.Accepted buffer) (sym e) (told (closed (form_numbers g)) reopen (form.Open f) answer.Accepted buffer (reopened_done o f g h'))

  pub reopens_not : (old : Form) (g : OrderForm Closed) (x : OrderForm Closed × Refusal) (r : Result (OrderForm Open) (OrderForm Closed × Refusal)) → old ≡ form.Closed g → r ≡ Err x → Changes known (dictionary_of s) (reopening known s (by_buffer known s buffer) (form_numbers g)) r g buffer → Turned known s (shown_form old) buffer reopen (form.Closed x.0) (answer.Refused x.1) buffer
  reopens_not old g x r e p h =
      let o = reopening known s (by_buffer known s buffer) (form_numbers g) in
      let h' = subst (λ (y : Result (OrderForm Open) (OrderForm Closed × Refusal)). Changes known (dictionary_of s) o y g buffer) p h in
      subst (λ (y : Form). Turned known s (shown_form y) buffer reopen (form.Closed x.0) (answer.Refused x.1) buffer) (sym e) (told (closed (form_numbers g)) reopen (form.Closed x.0) (answer.Refused x.1) buffer (not_reopened_done o x g h'))
