-- Padding, by its first byte that is not zero.
use Rattle.std.proofs.Common.{◌≡◌, ℕ, suc, ◌+◌, Bool, true, false, cond, not, eqb, ltb, List, [], ◌∷◌, length, Some, None, Err, Option, refl, ap, ◌∙◌, ⊎_elim, arith}
use Rattle.std.specs.List.{position_or_len}
use Rattle.std.proofs.lemmas.Bool.Decides.{eqb_tells, nat_tests}
use Rattle.wire.specs.declared.refusal.Reason.TheVariants as reason
use Rattle.wire.specs.Refusals.{refusal}
use Rattle.schema.specs.Verdicts.{Verdict, fine}
use Rattle.message.specs.Blocks.{padding_verdict}

abbrev pub is_other : ℕ → Bool
is_other b = not (eqb b 0)

-- where the first is
abbrev pub first_other : List ℕ → Option ℕ
first_other bs = cond (ltb (position_or_len is_other bs) (length bs)) (Some (position_or_len is_other bs)) None

-- what is told of it
abbrev pub told_of : ℕ → Option ℕ → Verdict
told_of place None = fine
told_of place (Some i) = Err (refusal reason.Padding (place + i) 0)

one_on : (place n m : ℕ) → told_of place (cond (ltb (1 + n) (suc m)) (Some (1 + n)) None) ≡ told_of (suc place) (cond (ltb n m) (Some n) None)
one_on place n m = by (ltb n m) refl
  where
    by : (b : Bool) → ltb n m ≡ b → told_of place (cond (ltb (1 + n) (suc m)) (Some (1 + n)) None) ≡ told_of (suc place) (cond b (Some n) None)
    by true e = let on : ltb (1 + n) (suc m) ≡ true = grind (arith, nat_tests) in let p : place + (1 + n) ≡ suc place + n = omega arith in rw on (ap (λ q. Err (refusal reason.Padding q 0)) p)
    by false e = let on : ltb (1 + n) (suc m) ≡ false = grind (arith, nat_tests) in rw on refl

at_front : (place m : ℕ) → told_of place (cond (ltb 0 (suc m)) (Some 0) None) ≡ Err (refusal reason.Padding place 0)
at_front place m =
    let first : ltb 0 (suc m) ≡ true = grind (arith, nat_tests) in
    let p : place + 0 ≡ place = omega arith in
    rw first (ap (λ q. Err (refusal reason.Padding q 0)) p)

pub padding_told : (place : ℕ) (bs : List ℕ) → told_of place (first_other bs) ≡ padding_verdict place bs
padding_told place [] = refl
padding_told place (b ∷ bs) = ⊎_elim
    (λ a. rw a.0 (one_on place (position_or_len is_other bs) (length bs) ∙ padding_told (suc place) bs))
    (λ a. rw a.0 (at_front place (length bs)))
    (eqb_tells b 0)
