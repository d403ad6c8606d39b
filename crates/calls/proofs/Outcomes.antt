-- What holds of whatever a call gives, where no refusal says that the buffer does not begin with the form.
use Rattle.std.proofs.Common.{◌≡◌, ℕ, Bool, true, false, cond, Ok, Err, Result, refl, ap, arith}
use Rattle.wire.specs.declared.refusal.Reason.{Reason}
use Rattle.wire.specs.declared.refusal.Reason.TheVariants as reason
use Rattle.wire.specs.declared.refusal.Refusal.{Refusal}
use Rattle.wire.specs.Refusals.{number_of, refusal, bind}
use Rattle.schema.specs.Verdicts.{fine}
use Rattle.calls.specs.Calls.{Outcome, becomes, refuses, out_of_turn, turned}

-- a reason other than that the buffer does not begin with the form
abbrev pub OtherReason : Reason → Type 0
OtherReason why = why ≡ reason.NotThisForm → ⊥

-- reasons are told apart by their numbers
abbrev pub NumberDiffers : Reason → Type 0
NumberDiffers why = number_of why ≡ 25 → ⊥

pub other_reason : (why : Reason) → NumberDiffers why → OtherReason why
other_reason why h e = h (ap number_of e)

-- whatever an answer gives has P, and a refusal does not say that the buffer does not begin with the form
abbrev pub Gives : {X : Type 0} → (X → Type 0) → Result X Refusal → Type 0
Gives P (Ok x) = P x
Gives P (Err e) = OtherReason e.reason

-- the same of what a call becomes
abbrev pub Becomes : {X : Type 0} → (X → Type 0) → Outcome X → Type 0
Becomes P (becomes x) = P x
Becomes P (refuses e) = OtherReason e.reason
Becomes P out_of_turn = Unit {0}

module _ {X Y : Type 0} where
  pub gives_bind : (P : X → Type 0) (Q : Y → Type 0) (r : Result X Refusal) (f : X → Result Y Refusal) → Gives P r → ((x : X) → P x → Gives Q (f x)) → Gives Q (bind r f)
  gives_bind P Q (Ok x) f g h = h x g
  gives_bind P Q (Err e) f g h = g

  pub gives_turned : (P : X → Type 0) (Q : Y → Type 0) (f : X → Y) (r : Result X Refusal) → Gives P r → ((x : X) → P x → Q (f x)) → Becomes Q (turned f r)
  gives_turned P Q f (Ok x) g h = h x g
  gives_turned P Q f (Err e) g h = g

module _ {X : Type 0} where
  pub gives_weaker : (P Q : X → Type 0) (r : Result X Refusal) → Gives P r → ((x : X) → P x → Q x) → Gives Q r
  gives_weaker P Q (Ok x) g h = h x g
  gives_weaker P Q (Err e) g h = g

  -- a rule, and then an answer
  pub gives_rule : (P : X → Type 0) (b : Bool) (why : Reason) (place tag : ℕ) (r : Result X Refusal) → OtherReason why → (b ≡ true → Gives P r) → Gives P (bind (cond b fine (Err (refusal why place tag))) (λ _. r))
  gives_rule P true why place tag r a h = h refl
  gives_rule P false why place tag r a h = a

-- ---- the reasons for which calls are refused

pub cannot_open : OtherReason reason.CannotOpen
cannot_open = other_reason reason.CannotOpen (λ e. omega arith)

pub not_found : OtherReason reason.NotFound
not_found = other_reason reason.NotFound (λ e. omega arith)

pub no_such_value : OtherReason reason.NoSuchValue
no_such_value = other_reason reason.NoSuchValue (λ e. omega arith)

pub unknown_type : OtherReason reason.UnknownType
unknown_type = other_reason reason.UnknownType (λ e. omega arith)

pub no_room : OtherReason reason.NoRoom
no_room = other_reason reason.NoRoom (λ e. omega arith)

pub full : OtherReason reason.Full
full = other_reason reason.Full (λ e. omega arith)

pub required_absent : OtherReason reason.RequiredAbsent
required_absent = other_reason reason.RequiredAbsent (λ e. omega arith)

pub too_long : OtherReason reason.TooLong
too_long = other_reason reason.TooLong (λ e. omega arith)
