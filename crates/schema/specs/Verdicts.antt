-- The verdict on something is its first broken rule. Assumes nothing.
use Rattle.std.specs.Prelude.{ℕ, Bool, cond, Ok, Err, Result}
use Rattle.wire.specs.declared.refusal.Reason.{Reason}
use Rattle.wire.specs.declared.refusal.Refusal.{Refusal}
use Rattle.wire.specs.Refusals.{refusal, bind}

abbrev pub Verdict : Type 0
Verdict = Result (Unit {0}) Refusal

-- no rule is broken
abbrev pub fine : Verdict
fine = Ok tt

-- the rule holds, or it is the one that is broken
abbrev pub rule : Bool → Reason → ℕ → ℕ → Verdict
rule holds why place tag = cond holds fine (Err (refusal why place tag))

-- one verdict and, where it finds nothing, another
infixr 40 ◌then◌
abbrev pub ◌then◌ : Verdict → Verdict → Verdict
v then w = bind v (λ _. w)
