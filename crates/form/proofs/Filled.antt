-- A form is filled in as the calls say, from what the code does to the bytes.
use Rattle.std.proofs.Common.{◌≡◌, ℕ, false, List, length, Ok, Err, Result, sym, refl, ap, ◌∙◌, arith}
use Rattle.wire.specs.declared.refusal.Refusal.{Refusal}
use Rattle.wire.specs.Refusals.{bind}
use Rattle.types.specs.declared.value.Value.{Value}
use Rattle.types.specs.declared.value.Value.TheVariants as value
use Rattle.types.specs.Meanings.{meaning}
use Rattle.types.specs.Kinds.{Known}
use Rattle.schema.specs.Verdicts.{Verdict}
use Rattle.schema.specs.Structure.{Dictionary}
use Rattle.schema.specs.Sections.{Section}
use Rattle.schema.specs.Reading.{template_of, dictionary_of}
use Rattle.message.specs.Blocks.{is_absent}
use Rattle.message.specs.Messages.{Message, frame}
use Rattle.calls.specs.Calls.{Numbers, Fill, by_buffer, opening, filling, numbers_of, laid}
use Rattle.steps.specs.Steps.{Left, Leaves, left_of, after, verdict_of, working, open_step}
use Rattle.steps.specs.Laws.{StepsAreCalls}
use Rattle.form.specs.declared.order_form.OrderForm.{OrderForm}
use Rattle.form.specs.declared.order_form.Open.{Open}
use Rattle.form.specs.Forms.{form_numbers, Step, IsStepOf, Opens, Fills, Changes}

-- an answer and a refusal differ
differ : {X : Type 0} (x : X) (e : Refusal) → ◌≡◌ {A = Result X Refusal} (Ok x) (Err e) → ⊥
differ x e p = let z : ◌≡◌ {A = ℕ} 0 1 = cc in omega arith

-- a value of the code is not absent
pub never_absent : (v : Value) → is_absent (meaning v) ≡ false
never_absent (value.Unsigned n) = refl
never_absent (value.Signed z) = refl
never_absent (value.Decimal z d) = refl
never_absent (value.Text x) = refl
never_absent (value.Investor x) = refl

-- the numbers of a template at a version, and a length
abbrev at_length : ℕ → ℕ → ℕ → Numbers
at_length number version n = record { template = number; version = version; length = n }

-- ---- opening

module _ (known : Known) (s buffer : List ℕ) (number version : ℕ) (is : after known (dictionary_of s) buffer (opening known s (length buffer) number version) ≡ open_step known s buffer number version) where
  not_opened_by : (o : Result Message Refusal) (e : Refusal) (new : List ℕ) (x : Result Left Refusal) → after known (dictionary_of s) buffer o ≡ x → Leaves x (Err e) buffer new → Opens known (dictionary_of s) o (Err e) buffer new
  not_opened_by (Ok m) e new (Ok l) p h = absurd (differ _ e (sym h.0))
  not_opened_by (Err y) e new (Ok l) p h = absurd (differ _ e (sym h.0))
  not_opened_by (Ok m) e new (Err x) p h = absurd (differ _ x p)
  not_opened_by (Err y) e new (Err x) p h = (let q = h.0 in cc, h.1)

  pub not_opened : (e : Refusal) (new : List ℕ) → Leaves (open_step known s buffer number version) (Err e) buffer new → Opens known (dictionary_of s) (opening known s (length buffer) number version) (Err e) buffer new
  not_opened e new h = not_opened_by (opening known s (length buffer) number version) e new (open_step known s buffer number version) is h

  opened_by : (o : Result Message Refusal) → ((m : Message) → o ≡ Ok m → (m.template ≡ number) × (m.version ≡ version)) → (n : ℕ) (f : OrderForm Open) (new : List ℕ) (x : Result Left Refusal) → form_numbers f ≡ at_length number version n → after known (dictionary_of s) buffer o ≡ x → Leaves x (Ok n) buffer new → Opens known (dictionary_of s) o (Ok f) buffer new
  opened_by (Ok m) same n f new (Err x) e p h = absurd (differ _ x p)
  opened_by (Err y) same n f new (Ok l) e p h = absurd (differ _ y (sym p))
  opened_by (Err y) same n f new (Err x) e p h = absurd (differ _ x h.0)
  opened_by (Ok m) same n f new (Ok l) e p h =
      let q = same m refl in
      let z : left_of known (dictionary_of s) buffer m ≡ l = cc in
      let y : n ≡ l.length = let a = h.0 in cc in
      let long : n ≡ (numbers_of known (dictionary_of s) m).length = y ∙ ap (λ v. v.length) (sym z) in
      (e ∙ (λ i. record { template = sym q.0 i; version = sym q.1 i; length = long i }), h.1 ∙ ap (λ v. v.bytes) (sym z))

  pub opened : ((m : Message) → opening known s (length buffer) number version ≡ Ok m → (m.template ≡ number) × (m.version ≡ version)) → (n : ℕ) (f : OrderForm Open) (new : List ℕ) → form_numbers f ≡ at_length number version n → Leaves (open_step known s buffer number version) (Ok n) buffer new → Opens known (dictionary_of s) (opening known s (length buffer) number version) (Ok f) buffer new
  opened same n f new e h = opened_by (opening known s (length buffer) number version) same n f new (open_step known s buffer number version) e is h

-- ---- closing and reopening

module _ (known : Known) (d : Dictionary) (buffer : List ℕ) {S T : Type 0} where
  changed_by : (f : OrderForm S) (g : OrderForm T) (o : Result Message Refusal) → form_numbers g ≡ form_numbers f → ((m : Message) → o ≡ Ok m → (form_numbers f ≡ numbers_of known d m) × (buffer ≡ laid (frame known d m) buffer)) → verdict_of o ≡ Ok tt → Changes known d {S = S} {T = T} o (Ok g) f buffer
  changed_by f g (Ok m) e same p = (e ∙ (same m refl).0, (same m refl).1)
  changed_by f g (Err x) e same p = absurd (differ _ x (sym p))

  pub changed : (f : OrderForm S) (g : OrderForm T) (o : Result Message Refusal) (v : Verdict) → form_numbers g ≡ form_numbers f → ((m : Message) → o ≡ Ok m → (form_numbers f ≡ numbers_of known d m) × (buffer ≡ laid (frame known d m) buffer)) → verdict_of o ≡ v → v ≡ Ok tt → Changes known d {S = S} {T = T} o (Ok g) f buffer
  changed f g o v e same p q = changed_by f g o e same (p ∙ q)

module _ (known : Known) (d : Dictionary) (buffer : List ℕ) {S : Type 0} (T : Type 0) where
  not_changed_by : (f : OrderForm S) (o : Result Message Refusal) (e : Refusal) → verdict_of o ≡ Err e → Changes known d {S = S} {T = T} o (Err (f, e)) f buffer
  not_changed_by f (Ok m) e p = absurd (differ _ e p)
  not_changed_by f (Err x) e p = let q : x ≡ e = cc in ap (λ y. (f, y)) (sym q)

  pub not_changed : (f : OrderForm S) (o : Result Message Refusal) (v : Verdict) (e : Refusal) → verdict_of o ≡ v → v ≡ Err e → Changes known d {S = S} {T = T} o (Err (f, e)) f buffer
  not_changed f o v e p q = not_changed_by f o e (p ∙ q)

-- ---- filling in

module _ (known : Known) (s buffer : List ℕ) (law : StepsAreCalls known s buffer) (f : OrderForm Open) (k : Fill) (step : Step) (says : IsStepOf k step known s buffer (form_numbers f)) where
  abbrev numbers : Numbers
  numbers = form_numbers f

  -- what the call answers
  abbrev pub called : Result Message Refusal
  called = filling known s (by_buffer known s buffer) (length buffer) numbers k

  -- what the step leaves, by the section
  abbrev pub stepped : Section → Result Left Refusal
  stepped t = step known (template_of t) numbers.version numbers.length buffer

  -- refused before a byte is looked at
  early_by : (o : Result Message Refusal) (e : Refusal) → after known (dictionary_of s) buffer o ≡ Err e → Fills known (dictionary_of s) o (Err e) f f buffer buffer
  early_by (Ok m) e p = absurd (differ _ e p)
  early_by (Err x) e p = (sym p', refl, refl)
    where
      p' : ◌≡◌ {A = Result (Unit {0}) Refusal} (Err x) (Err e)
      p' = cc

  pub refused_early : (e : Refusal) → working known s buffer numbers ≡ Err e → Fills known (dictionary_of s) called (Err e) f f buffer buffer
  refused_early e w = early_by called e (says law ∙ ap (λ x. bind x stepped) w)

  late_by : (o : Result Message Refusal) (e : Refusal) (new : List ℕ) (x : Result Left Refusal) → after known (dictionary_of s) buffer o ≡ x → Leaves x (Err e) buffer new → Fills known (dictionary_of s) o (Err e) f f buffer new
  late_by (Ok m) e new (Ok l) p h = absurd (differ _ e (sym h.0))
  late_by (Err y) e new (Ok l) p h = absurd (differ _ e (sym h.0))
  late_by (Ok m) e new (Err x) p h = absurd (differ _ x p)
  late_by (Err y) e new (Err x) p h = (same, refl, h.1)
    where
      same : ◌≡◌ {A = Result (Unit {0}) Refusal} (Err e) (Err y)
      same = let q = h.0 in cc

  -- refused by the step
  pub refused_late : (t : Section) (e : Refusal) (new : List ℕ) → working known s buffer numbers ≡ Ok t → Leaves (stepped t) (Err e) buffer new → Fills known (dictionary_of s) called (Err e) f f buffer new
  refused_late t e new w h = late_by called e new (stepped t) (says law ∙ ap (λ x. bind x stepped) w) h

  done_by : (o : Result Message Refusal) → called ≡ o → (n : ℕ) (g : OrderForm Open) (new : List ℕ) (x : Result Left Refusal) → form_numbers g ≡ at_length numbers.template numbers.version n → after known (dictionary_of s) buffer o ≡ x → Leaves x (Ok n) buffer new → Fills known (dictionary_of s) o (Ok tt) f g buffer new
  done_by (Ok m) q n g new (Err x) e p h = absurd (differ _ x p)
  done_by (Err y) q n g new (Ok l) e p h = absurd (differ _ y (sym p))
  done_by (Err y) q n g new (Err x) e p h = absurd (differ _ x h.0)
  done_by (Ok m) q n g new (Ok l) e p h =
      let same = law.same_template numbers k m q in
      let z : left_of known (dictionary_of s) buffer m ≡ l = cc in
      let y : n ≡ l.length = let a = h.0 in cc in
      let long : n ≡ (numbers_of known (dictionary_of s) m).length = y ∙ ap (λ v. v.length) (sym z) in
      (refl, e ∙ (λ i. record { template = sym same.0 i; version = sym same.1 i; length = long i }), h.1 ∙ ap (λ v. v.bytes) (sym z))

  -- done by the step
  pub done : (t : Section) (n : ℕ) (g : OrderForm Open) (new : List ℕ) → form_numbers g ≡ at_length numbers.template numbers.version n → working known s buffer numbers ≡ Ok t → Leaves (stepped t) (Ok n) buffer new → Fills known (dictionary_of s) called (Ok tt) f g buffer new
  done t n g new e w h = done_by called refl n g new (stepped t) e (says law ∙ ap (λ x. bind x stepped) w) h
