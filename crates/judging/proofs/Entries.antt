-- The entries of a group, one by one.
use Rattle.std.proofs.Common.{◌≡◌, ℕ, zero, suc, ◌+◌, ◌-◌, ◌*◌, ◌<◌, ◌≤◌, Bool, true, false, cond, leb, List, length, drop, Ok, Err, sym, refl, ap, ◌∙◌, suc-mul, zero-mul, arith, length-drop}
use Rattle.std.proofs.lemmas.Bool.{le-leb, lt-leb, leb-true}
use Rattle.wire.specs.declared.refusal.Reason.TheVariants as reason
use Rattle.wire.specs.declared.refusal.Refusal.{Refusal}
use Rattle.wire.specs.Refusals.{refusal}
use Rattle.schema.specs.Verdicts.{Verdict, fine, rule, ◌then◌}
use Rattle.message.specs.Blocks.{BlockView, block_verdict}
use Rattle.message.specs.Frames.{entries_verdict}
use Rattle.dictionary.proofs.Rounds.{passes_on, refused_at}

module _ (closed : Bool) (b : BlockView) (stride tag : ℕ) where
  -- one entry and those behind it
  step : (n p : ℕ) (bs : List ℕ) → 0 < n → entries_verdict closed b stride tag n p bs ≡ (rule (leb stride (length bs)) reason.PastEnd p tag then (block_verdict closed p b bs then entries_verdict closed b stride tag (n - 1) (p + stride) (drop stride bs)))
  step zero p bs h = absurd (omega arith)
  step (suc n) p bs h =
      let k : n ≡ suc n - 1 = omega arith in
      ap (λ m. rule (leb stride (length bs)) reason.PastEnd p tag then (block_verdict closed p b bs then entries_verdict closed b stride tag m (p + stride) (drop stride bs))) k

  pub entries_short : (n p : ℕ) (bs : List ℕ) (all : Verdict) → 0 < n → length bs < stride → entries_verdict closed b stride tag n p bs ≡ all → Err (refusal reason.PastEnd p tag) ≡ all
  entries_short n p bs all h short whole =
      ap (λ t. rule t reason.PastEnd p tag then (block_verdict closed p b bs then entries_verdict closed b stride tag (n - 1) (p + stride) (drop stride bs))) (sym (lt-leb stride (length bs) short))
      ∙ sym (step n p bs h)
      ∙ whole

  pub entries_refused : (n p : ℕ) (bs : List ℕ) (e : Refusal) (all : Verdict) → 0 < n → stride ≤ length bs → block_verdict closed p b bs ≡ Err e → entries_verdict closed b stride tag n p bs ≡ all → Err e ≡ all
  entries_refused n p bs e all h long bad whole =
      sym (refused_at (block_verdict closed p b bs) (entries_verdict closed b stride tag (n - 1) (p + stride) (drop stride bs)) e bad)
      ∙ ap (λ t. rule t reason.PastEnd p tag then (block_verdict closed p b bs then entries_verdict closed b stride tag (n - 1) (p + stride) (drop stride bs))) (sym (le-leb stride (length bs) long))
      ∙ sym (step n p bs h)
      ∙ whole

  pub entries_more : (n p : ℕ) (bs : List ℕ) (x : Unit {0}) (all : Verdict) → 0 < n → stride ≤ length bs → block_verdict closed p b bs ≡ Ok x → entries_verdict closed b stride tag n p bs ≡ all → entries_verdict closed b stride tag (n - 1) (p + stride) (drop stride bs) ≡ all
  entries_more n p bs x all h long ok whole =
      sym (passes_on (block_verdict closed p b bs) (entries_verdict closed b stride tag (n - 1) (p + stride) (drop stride bs)) x ok)
      ∙ ap (λ t. rule t reason.PastEnd p tag then (block_verdict closed p b bs then entries_verdict closed b stride tag (n - 1) (p + stride) (drop stride bs))) (sym (le-leb stride (length bs) long))
      ∙ sym (step n p bs h)
      ∙ whole

  passed : (t : Bool) (v w : Verdict) (e : Refusal) → ((cond t fine (Err e)) then (v then w)) ≡ fine → (t ≡ true) × (w ≡ fine)
  passed true (Ok x) w e h = (refl, h)
  passed true (Err g) w e h = let z : ◌≡◌ {A = ℕ} 0 1 = cc in absurd (omega arith)
  passed false v w e h = let z : ◌≡◌ {A = ℕ} 0 1 = cc in absurd (omega arith)

  -- entries that pass are there
  pub entries_there : (n p : ℕ) (bs : List ℕ) → entries_verdict closed b stride tag n p bs ≡ fine → n * stride ≤ length bs
  entries_there zero p bs h = let e = zero-mul stride in omega arith
  entries_there (suc n) p bs h =
      let k = passed (leb stride (length bs)) (block_verdict closed p b bs) (entries_verdict closed b stride tag n (p + stride) (drop stride bs)) (refusal reason.PastEnd p tag) h in
      let one : stride ≤ length bs = leb-true stride (length bs) k.0 in
      let rest = entries_there n (p + stride) (drop stride bs) k.1 in
      let long = length-drop stride bs in
      let e = suc-mul n stride in
      omega arith
