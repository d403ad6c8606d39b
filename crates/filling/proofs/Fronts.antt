-- The template that a form is filled in by, from what the code finds.
use Rattle.std.proofs.Common.{◌≡◌, ℕ, ◌<◌, ◌≤◌, Bool, true, false, cond, ◌&&◌, leb, List, length, take, Some, None, Ok, Err, Result, sym, refl, ap, ◌∙◌}
use Rattle.std.proofs.lemmas.Bool.{le-leb, lt-leb}
use Rattle.wire.specs.declared.refusal.Reason.TheVariants as reason
use Rattle.wire.specs.declared.refusal.Refusal.{Refusal}
use Rattle.wire.specs.Refusals.{refusal, bind}
use Rattle.types.specs.Kinds.{Known}
use Rattle.schema.specs.Verdicts.{Verdict, fine, rule, ◌then◌}
use Rattle.schema.specs.Reading.{version_of, dictionary_of}
use Rattle.message.specs.Messages.{is_there, message_of}
use Rattle.message.specs.Fronts.{is_frame_of, front_message}
use Rattle.calls.specs.Calls.{Numbers}
use Rattle.steps.specs.Steps.{not_this_form, working}

-- something is there exactly when the test holds
there_when : {X : Type 0} (b : Bool) (x : X) → b ≡ is_there (cond b (Some x) None)
there_when true x = refl
there_when false x = refl

-- a buffer that is long enough begins with a form's frame exactly if its front is one
pub begun : (known : Known) (s buffer : List ℕ) (number version n : ℕ) (front : List ℕ) (r : Bool) → n ≤ length buffer → front ≡ take n buffer → r ≡ is_frame_of known s number version front → r ≡ is_there (front_message known s number version n buffer)
begun known s buffer number version n front r l is e =
    let m = message_of known (dictionary_of s) (take n buffer) in
    e
    ∙ ap (is_frame_of known s number version) is
    ∙ there_when (is_frame_of known s number version (take n buffer)) m
    ∙ sym (ap (λ b. is_there (cond (b && is_frame_of known s number version (take n buffer)) (Some m) None)) (le-leb n (length buffer) l))

-- a version above the dictionary's has no form
pub too_new : (known : Known) (s buffer : List ℕ) (n : Numbers) → version_of s < n.version → working known s buffer n ≡ not_this_form
too_new known s buffer n l = rw (lt-leb n.version (version_of s) l)

-- ---- one answer after another

pub refused_then : {X : Type 0} (w : Result X Refusal) (x : X) (v : Verdict) (e : Refusal) (rest : Verdict) → w ≡ Ok x → v ≡ Err e → bind w (λ _. v then rest) ≡ Err e
refused_then w x v e rest p q = ap (λ y. bind y (λ _. v then rest)) p ∙ ap (λ y. y then rest) q

pub passed_then : {X : Type 0} (w : Result X Refusal) (x : X) (v : Verdict) (rest : Verdict) → w ≡ Ok x → v ≡ fine → bind w (λ _. v then rest) ≡ rest
passed_then w x v rest p q = ap (λ y. bind y (λ _. v then rest)) p ∙ ap (λ y. y then rest) q

-- ---- the longest frame

pub too_long : (n : ℕ) → 16384 < n → rule (leb n 16384) reason.TooLong 0 0 ≡ Err (refusal reason.TooLong 0 0)
too_long n l = rw (lt-leb n 16384 l)

pub not_too_long : (n : ℕ) → n ≤ 16384 → rule (leb n 16384) reason.TooLong 0 0 ≡ fine
not_too_long n l = rw (le-leb n 16384 l)
