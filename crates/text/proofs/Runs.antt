-- Looking for zeros, and characters with zeros behind them.
use Rattle.std.proofs.Common.{◌≡◌, ℕ, zero, suc, ◌-◌, ◌≤◌, Bool, ◌&&◌, eqb, List, [], ◌∷◌, ◌++◌, length, take, drop, refl, ap, ◌∙◌, arith}
use Rattle.std.specs.List.{list_all}
use Rattle.std.proofs.lemmas.List.{drop-replicate, take-replicate}
use Rattle.text.specs.Texts.{only_zeros, zeros}

-- there are only zeros if each byte is one
pub zeros_all : (s : List ℕ) → only_zeros s ≡ list_all (λ b. eqb b 0) s
zeros_all [] = refl
zeros_all (b ∷ s) = ap (λ (x : Bool). eqb b 0 && x) (zeros_all s)

take_past : (w : ℕ) (s t : List ℕ) → length s ≤ w → take w (s ++ t) ≡ s ++ take (w - length s) t
take_past w [] t h = let e : w ≡ w - 0 = omega arith in ap (λ n. take n t) e
take_past zero (c ∷ s) t h = absurd (omega arith)
take_past (suc w) (c ∷ s) t h =
    let e : w - length s ≡ suc w - suc (length s) = omega arith in
    ap (λ r. c ∷ r) (take_past w s t (omega arith)) ∙ ap (λ n. c ∷ (s ++ take n t)) e

-- w bytes of what lies where s was put over n zeros
pub padded_is : (n w : ℕ) (s : List ℕ) → length s ≤ w → w ≤ n → take w (s ++ drop (length s) (zeros n)) ≡ s ++ zeros (w - length s)
padded_is n w s h k =
    take_past w s (drop (length s) (zeros n)) h
    ∙ ap (λ t. s ++ take (w - length s) t) (drop-replicate (length s) n 0)
    ∙ ap (λ t. s ++ t) (take-replicate (w - length s) (n - length s) 0 (omega arith))
