-- What a pattern holds of the bytes that it is made of.
use Rattle.std.proofs.Common.{◌≡◌, ℕ, min, List, ◌++◌, length, take, sym, ap, ◌∙◌, ⊎_elim, arith}
use Rattle.std.proofs.lemmas.List.{take_all, take_at, length-take-le}
use Rattle.std.proofs.lemmas.Bool.{cases_lt}

front_20 : (s : List ℕ) (w : ℕ) → w ≡ min (length s) 20 → take w s ≡ take 20 s
front_20 s w e =
    ⊎_elim
    (λ h. let k : w ≡ 20 = omega arith in ap (λ (n : ℕ). take n s) k)
    (λ h. take_all w s (omega arith) ∙ sym (take_all 20 s h))
    (cases_lt 20 (length s))

-- the first bytes, copied to the front of something else
pub copied : (s front behind : List ℕ) (w : ℕ) → w ≡ min (length s) 20 → front ≡ take w s → take w (front ++ behind) ≡ take 20 s
copied s front behind w e h =
    let long : length front ≡ w = ap length h ∙ length-take-le w s (omega arith) in
    take_at front behind w long ∙ h ∙ front_20 s w e
