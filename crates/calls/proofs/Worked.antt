-- The message that a call works on: when there is one, and what is answered where there is none.
use Rattle.std.proofs.Common.{◌≡◌, ℕ, Bool, true, false, cond, leb, List, Some, None, Ok, Err, Option, Result, refl, ap, ◌∙◌, arith}
use Rattle.std.proofs.lemmas.Bool.{le-leb, and_from}
use Rattle.wire.specs.declared.refusal.Reason.TheVariants as reason
use Rattle.wire.specs.declared.refusal.Refusal.{Refusal}
use Rattle.wire.specs.Bytes.{Bytes}
use Rattle.wire.specs.Refusals.{refusal}
use Rattle.types.specs.Kinds.{Known, AllLawful}
use Rattle.schema.specs.Verdicts.{Verdict, fine}
use Rattle.schema.specs.Reading.{version_of, dictionary_of}
use Rattle.schema.specs.Seen.{template_at}
use Rattle.message.specs.Messages.{Message, geometry_of, template_geometry, is_there}
use Rattle.message.specs.Fronts.{front_message}
use Rattle.calls.specs.Changes.{◌before◌}
use Rattle.calls.specs.Calls.{HeldBy, Numbers, by_buffer, or_not_this_form, can_open, worked_on}
use Rattle.calls.proofs.AnyFront.{AnyFront, any_front}

-- ---- answers

-- an answer behind a verdict is there only if the verdict is fine
pub before_there : {X : Type 0} (v : Verdict) (r : Result X Refusal) (x : X) → (v before r) ≡ Ok x → (v ≡ fine) × (r ≡ Ok x)
before_there (Ok u) r x e = (refl, e)
before_there (Err e) r x h = let z : ◌≡◌ {A = ℕ} 0 1 = cc in absurd (omega arith)

pub before_rule : {X : Type 0} (b : Bool) (why : Refusal) (r : Result X Refusal) (x : X) → (cond b fine (Err why) before r) ≡ Ok x → (b ≡ true) × (r ≡ Ok x)
before_rule true why r x e = (refl, e)
before_rule false why r x h = let z : ◌≡◌ {A = ℕ} 0 1 = cc in absurd (omega arith)

pub was_this_form : (o : Option Message) (m : Message) → or_not_this_form o ≡ Ok m → o ≡ Some m
was_this_form None m e = let z : ◌≡◌ {A = ℕ} 0 1 = cc in absurd (omega arith)
was_this_form (Some k) m e = cc

-- ---- any form

module _ (known : Known) (s : List ℕ) {A : Type 0} (held : HeldBy A) (a : A) where
  -- the template can be opened, its types and geometry are right, and the message is there
  pub record Worked (m : Message) : Type 0 where
    pub opens : can_open (dictionary_of s) (held.template a) (held.version a) ≡ true
    pub geometry : template_geometry known s (held.template a) (held.version a) ≡ fine
    pub message : held.message a ≡ Ok m

  pub worked : (m : Message) → worked_on known s held a ≡ Ok m → Worked m
  worked m e =
      let x = before_rule (can_open (dictionary_of s) (held.template a) (held.version a)) (refusal reason.NotThisForm 0 0) (template_geometry known s (held.template a) (held.version a) before held.message a) m e in
      let y = before_there (template_geometry known s (held.template a) (held.version a)) (held.message a) m x.1 in
      record { opens = x.0; geometry = y.0; message = y.1 }

  -- where the template cannot be opened
  pub not_opened : can_open (dictionary_of s) (held.template a) (held.version a) ≡ false → worked_on known s held a ≡ Err (refusal reason.NotThisForm 0 0)
  not_opened e = rw e

  -- where it can be, but its types and geometry are not right
  pub not_right : (why : Refusal) → can_open (dictionary_of s) (held.template a) (held.version a) ≡ true → template_geometry known s (held.template a) (held.version a) ≡ Err why → worked_on known s held a ≡ Err why
  not_right why e g = rw (e, g)

  -- where both are so, it is the message
  pub opened_right : can_open (dictionary_of s) (held.template a) (held.version a) ≡ true → template_geometry known s (held.template a) (held.version a) ≡ fine → worked_on known s held a ≡ held.message a
  opened_right e g = rw (e, g)

-- ---- a form of plain numbers

module _ (known : Known) (s buffer : List ℕ) (a : Numbers) where
  -- a message that is worked on is the one that the buffer begins with
  pub worked_front : (m : Message) → worked_on known s (by_buffer known s buffer) a ≡ Ok m → front_message known s a.template a.version a.length buffer ≡ Some m
  worked_front m e = was_this_form (front_message known s a.template a.version a.length buffer) m (worked known s (by_buffer known s buffer) a m e).message

  pub worked_any_front : AllLawful known → Bytes buffer → (m : Message) → worked_on known s (by_buffer known s buffer) a ≡ Ok m → AnyFront known s a.template a.version a.length buffer m
  worked_any_front lawful y m e = any_front known lawful s a.template a.version a.length buffer y m (worked_front m e)

  -- and the message that the buffer begins with is worked on
  pub front_worked : AllLawful known → Bytes buffer → (m : Message) → front_message known s a.template a.version a.length buffer ≡ Some m → worked_on known s (by_buffer known s buffer) a ≡ Ok m
  front_worked lawful y m e =
      let f = any_front known lawful s a.template a.version a.length buffer y m e in
      let opens : can_open (dictionary_of s) a.template a.version ≡ true = and_from (leb a.version (dictionary_of s).version) (is_there (template_at (dictionary_of s) a.template a.version)) (le-leb _ _ f.below) (ap is_there f.found) in
      let geometry : template_geometry known s a.template a.version ≡ fine = ap (geometry_of known (version_of s)) f.section_is ∙ f.geometry in
      opened_right known s (by_buffer known s buffer) a opens geometry ∙ ap or_not_this_form e
