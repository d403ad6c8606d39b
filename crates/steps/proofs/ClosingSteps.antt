-- Closing and reopening a form, and what every call that fills in leaves of it.
use Rattle.std.proofs.Common.{◌≡◌, ℕ, true, leb, List, ◌++◌, length, take, drop, Some, None, Ok, Err, Option, Result, sym, refl, ap, ◌∙◌, ap₂, arith, take-append-drop}
use Rattle.wire.specs.declared.refusal.Reason.TheVariants as reason
use Rattle.wire.specs.declared.refusal.Refusal.{Refusal}
use Rattle.wire.specs.Bytes.{Bytes}
use Rattle.wire.specs.Refusals.{bind}
use Rattle.types.specs.Kinds.{Known, AllLawful}
use Rattle.schema.specs.Verdicts.{Verdict, rule, ◌then◌}
use Rattle.schema.specs.Structure.{Template}
use Rattle.schema.specs.Reading.{dictionary_of}
use Rattle.schema.specs.Seen.{template_at}
use Rattle.message.specs.Messages.{Message, view_of, frame, verdict_when}
use Rattle.calls.specs.Changes.{◌before◌, closing_verdict}
use Rattle.calls.specs.Calls.{Fill, Numbers, by_buffer, filled, filled_by, closed_by, worked_on, filling, closing, reopening, numbers_of, laid}
use Rattle.calls.proofs.AnyFront.{AnyFront}
use Rattle.calls.proofs.Closing.{closing_is_judging}
use Rattle.calls.proofs.Worked.{before_there, worked_any_front}
use Rattle.steps.specs.Steps.{working, close_step, verdict_of}
use Rattle.steps.proofs.Fronts.{with_contents, told_of_call}

-- ---- answers

-- what an answer gives that another answer goes by
record Given {X Y : Type 0} (r : Result X Refusal) (f : X → Result Y Refusal) (y : Y) : Type 0 where
  first : X
  is : r ≡ Ok first
  next : f first ≡ Ok y

given : {X Y : Type 0} (r : Result X Refusal) (f : X → Result Y Refusal) (y : Y) → bind r f ≡ Ok y → Given r f y
given (Ok x) f y e = record { first = x; is = refl; next = e }
given (Err x) f y e = let z : ◌≡◌ {A = ℕ} 0 1 = cc in absurd (omega arith)

verdict_before : (v : Verdict) (m : Message) → verdict_of (v before Ok m) ≡ v
verdict_before (Ok x) m = refl
verdict_before (Err e) m = refl

given_back : (r : Result Message Refusal) → bind r (λ m. Ok m) ≡ r
given_back (Ok m) = refl
given_back (Err e) = refl

-- ---- the message that a call leaves

-- filling in leaves template and version
filled_same : (known : Known) (room : ℕ) (k : Fill) (m x : Message) (o : Option Template) → filled_by known room k m o ≡ Ok x → (x.template ≡ m.template) × (x.version ≡ m.version)
filled_same known room k m x None e = let z : ◌≡◌ {A = ℕ} 0 1 = cc in absurd (omega arith)
filled_same known room k m x (Some t) e =
    let g = given (filled room (view_of known t) m.contents k) (λ c. Ok (with_contents m c)) x e in
    let last = g.next in
    let is : with_contents m g.first ≡ x = cc in
    (ap (λ y. y.template) (sym is), ap (λ y. y.version) (sym is))

-- closing leaves the message
closed_is : (known : Known) (m x : Message) (o : Option Template) → closed_by known m o ≡ Ok x → m ≡ x
closed_is known m x None e = let z : ◌≡◌ {A = ℕ} 0 1 = cc in absurd (omega arith)
closed_is known m x (Some t) e = let last = (before_there (closing_verdict (view_of known t) m.contents) (Ok m) x e).1 in cc

module _ (known : Known) (s buffer : List ℕ) (n : Numbers) (lawful : AllLawful known) (y : Bytes buffer) where
  -- the message that the buffer begins with has the form's numbers, and its frame in front changes nothing
  front_same : (m : Message) → AnyFront known s n.template n.version n.length buffer m → (n ≡ numbers_of known (dictionary_of s) m) × (buffer ≡ laid (frame known (dictionary_of s) m) buffer)
  front_same m f = (
    (λ i. record { template = sym f.number_is i; version = sym f.version_is i; length = sym f.frame_long i }),
    sym (take-append-drop n.length buffer) ∙ ap₂ (λ x w. x ++ drop w buffer) (sym f.front) (sym f.frame_long),
  )

  -- closing is judging the frame as one of a message that closes
  pub closes : verdict_of (closing known s (by_buffer known s buffer) n) ≡ close_step known s buffer n
  closes =
      told_of_call known s buffer n lawful y verdict_of (closed_by known) (λ _. verdict_when true known s (take n.length buffer) then rule (leb n.length 16384) reason.TooLong 0 0) (λ e. refl)
      (λ t m h.
      ap (λ o. verdict_of (closed_by known m o)) (sym h.found ∙ h.all.found)
      ∙ verdict_before (closing_verdict (view_of known h.all.template) m.contents) m
      ∙ closing_is_judging known s n.template n.version n.length buffer m h.all)

  -- reopening asks for a section to work by, and for no more
  pub reopens : verdict_of (reopening known s (by_buffer known s buffer) n) ≡ bind (working known s buffer n) (λ _. Ok tt)
  reopens =
      ap verdict_of (sym (given_back (worked_on known s (by_buffer known s buffer) n)))
      ∙ told_of_call known s buffer n lawful y verdict_of (λ m _. Ok m) (λ _. Ok tt) (λ e. refl) (λ t m h. refl)

  -- a call that fills in leaves template and version
  pub same_template : (k : Fill) (m : Message) → filling known s (by_buffer known s buffer) (length buffer) n k ≡ Ok m → (m.template ≡ n.template) × (m.version ≡ n.version)
  same_template k m e =
      let g = given (worked_on known s (by_buffer known s buffer) n) (λ x. filled_by known (length buffer) k x (template_at (dictionary_of s) n.template n.version)) m e in
      let f = worked_any_front known s buffer n lawful y g.first g.is in
      let same = filled_same known (length buffer) k g.first m (template_at (dictionary_of s) n.template n.version) g.next in
      (same.0 ∙ f.number_is, same.1 ∙ f.version_is)

  -- reopening leaves the numbers and the buffer
  pub reopened_same : (m : Message) → reopening known s (by_buffer known s buffer) n ≡ Ok m → (n ≡ numbers_of known (dictionary_of s) m) × (buffer ≡ laid (frame known (dictionary_of s) m) buffer)
  reopened_same m e = front_same m (worked_any_front known s buffer n lawful y m e)

  -- and so does closing
  pub closed_same : (m : Message) → closing known s (by_buffer known s buffer) n ≡ Ok m → (n ≡ numbers_of known (dictionary_of s) m) × (buffer ≡ laid (frame known (dictionary_of s) m) buffer)
  closed_same m e =
      let g = given (worked_on known s (by_buffer known s buffer) n) (λ x. closed_by known x (template_at (dictionary_of s) n.template n.version)) m e in
      reopened_same m (g.is ∙ ap Ok (closed_is known g.first m (template_at (dictionary_of s) n.template n.version) g.next))
