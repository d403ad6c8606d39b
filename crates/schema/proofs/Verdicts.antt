-- A verdict of several rules is fine exactly if each rule holds.
use Rattle.std.proofs.Common.{◌≡◌, ℕ, ◌≤◌, Bool, true, false, cond, leb, Ok, Err, Decides, refl, arith}
use Rattle.std.proofs.lemmas.Bool.{leb-true, le-leb}
use Rattle.wire.specs.declared.refusal.Refusal.{Refusal}
use Rattle.schema.specs.Verdicts.{Verdict, fine, ◌then◌}

-- each of two facts gives the other
abbrev pub Iff : Type 0 → Type 0 → Type 0
Iff P Q = (P → Q) × (Q → P)

pub never : {P : Type 0} (e : Refusal) → ◌≡◌ {A = Verdict} (Err e) fine → P
never e h = let z : ◌≡◌ {A = ℕ} 0 1 = cc in absurd (omega arith)

pub rule_iff : {P : Type 0} (b : Bool) (e : Refusal) → Decides b P → Iff (◌≡◌ {A = Verdict} (cond b fine (Err e)) fine) P
rule_iff true e d = ((λ _. d.0 refl), (λ _. refl))
rule_iff false e d = ((λ h. never e h), (λ p. let z : false ≡ true = d.1 p in let y : ◌≡◌ {A = ℕ} 0 1 = cc in absurd (omega arith)))

pub then_iff : {P Q : Type 0} (v w : Verdict) → Iff (v ≡ fine) P → Iff (w ≡ fine) Q → Iff ((v then w) ≡ fine) (P × Q)
then_iff (Ok tt) w i j = ((λ h. (i.0 refl, j.0 h)), (λ k. j.1 k.1))
then_iff (Err e) w i j = ((λ h. never e h), (λ k. never e (i.1 k.0)))

pub both : (v w : Verdict) → (v then w) ≡ fine → (v ≡ fine) × (w ≡ fine)
both (Ok tt) w h = (refl, h)
both (Err e) w h = never e h

pub joins : (v w : Verdict) → v ≡ fine → w ≡ fine → (v then w) ≡ fine
joins (Ok tt) w e f = f
joins (Err e) w h f = h

pub decides_leb : (a b : ℕ) → Decides (leb a b) (a ≤ b)
decides_leb a b = (leb-true a b, le-leb a b)

pub iff_tt : {P Q : Type 0} → Iff P Q → Iff P (Unit {0} × Q)
iff_tt i = ((λ p. (tt, i.0 p)), (λ q. i.1 q.1))

-- a first fact is taken in with those that follow it
pub iff_regroup : {P Q R S : Type 0} → Iff P (Q × (R × S)) → Iff P ((Q × R) × S)
iff_regroup i = ((λ p. let h = i.0 p in ((h.0, h.1.0), h.1.1)), (λ k. i.1 (k.0.0, (k.0.1, k.1))))
