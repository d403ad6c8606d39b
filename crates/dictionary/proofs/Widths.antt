-- A width that a library answers is at most 20.
use Rattle.std.proofs.Common.{◌≡◌, ℕ, ◌≤◌, Some, None, Ok, Option, Result, refl, ap, ◌∙◌, subst, arith}
use Rattle.wire.specs.declared.refusal.Refusal.{Refusal}
use Rattle.wire.specs.Refusals.{located_as}
use Rattle.types.specs.Kinds.{Kind, Lawful}
use Rattle.types.specs.Answers.{width_of}

pub width_bounded : (k : Option Kind) (r o : Result ℕ Refusal) (place tag w : ℕ) → ((x : Kind) → k ≡ Some x → Lawful x) → r ≡ width_of k → o ≡ located_as r place tag → o ≡ Ok w → w ≤ 20
width_bounded None r o place tag w lawful e f h =
    let e' : o ≡ located_as (width_of None) place tag = f ∙ ap (λ x. located_as x place tag) e in
    let z : ◌≡◌ {A = ℕ} 0 1 = cc in absurd (omega arith)
width_bounded (Some k) r o place tag w lawful e f h =
    let e' : o ≡ located_as (width_of (Some k)) place tag = f ∙ ap (λ x. located_as x place tag) e in
    let same : k.width ≡ w = cc in
    subst (λ n. n ≤ 20) same (lawful k refl).most
