-- Verdicts that are fine: each rule holds, and what follows is fine.
use Rattle.std.proofs.Common.{◌≡◌, ℕ, Bool, true, false, cond, Ok, Err, refl, arith}
use Rattle.wire.specs.declared.refusal.Refusal.{Refusal}
use Rattle.schema.specs.Verdicts.{Verdict, fine, ◌then◌}

-- the parts of a verdict that is fine
pub both : (v w : Verdict) → v then w ≡ fine → (v ≡ fine) × (w ≡ fine)
both (Ok x) w e = (refl, e)
both (Err r) w e = let z : ◌≡◌ {A = ℕ} 0 1 = cc in absurd (omega arith)

pub joins : (v w : Verdict) → v ≡ fine → w ≡ fine → v then w ≡ fine
joins (Ok x) w e f = f
joins (Err r) w e f = e

pub told : (b : Bool) (r : Refusal) (w : Verdict) → cond b fine (Err r) then w ≡ fine → (b ≡ true) × (w ≡ fine)
told true r w e = (refl, e)
told false r w e = let z : ◌≡◌ {A = ℕ} 0 1 = cc in absurd (omega arith)

pub holds : (b : Bool) (r : Refusal) → cond b fine (Err r) ≡ fine → b ≡ true
holds true r e = refl
holds false r e = let z : ◌≡◌ {A = ℕ} 0 1 = cc in absurd (omega arith)

pub kept : (b : Bool) (r : Refusal) → b ≡ true → cond b fine (Err r) ≡ fine
kept true r e = refl
kept false r e = let z : ◌≡◌ {A = ℕ} 0 1 = cc in absurd (omega arith)

pub passing : (b : Bool) (r : Refusal) (w : Verdict) → b ≡ true → cond b fine (Err r) then w ≡ w
passing true r w e = refl
passing false r w e = let z : ◌≡◌ {A = ℕ} 0 1 = cc in absurd (omega arith)

pub joins_rule : (b : Bool) (r : Refusal) (w : Verdict) → b ≡ true → w ≡ fine → cond b fine (Err r) then w ≡ fine
joins_rule true r w e f = f
joins_rule false r w e f = let z : ◌≡◌ {A = ℕ} 0 1 = cc in absurd (omega arith)
