-- Bytes in hexadecimal, one after another.
use Rattle.std.proofs.Common.{◌≡◌, ℕ, ◌+◌, ◌<◌, List, [], ◌∷◌, ◌++◌, length, get_or, take, sym, refl, ap, ◌∙◌}
use Rattle.std.proofs.lemmas.List.{append_assoc, append-nil, take_more}
use Rattle.printing.specs.Written.{pair, pairs}

pairs_append : (s t : List ℕ) → pairs (s ++ t) ≡ pairs s ++ pairs t
pairs_append [] t = refl
pairs_append (b ∷ s) t = ap (λ (x : List ℕ). pair b ++ x) (pairs_append s t) ∙ sym (append_assoc (pair b) (pairs s) (pairs t))

pub one_more : (s : List ℕ) (i : ℕ) → i < length s → pairs (take i s) ++ pair (get_or s i 0) ≡ pairs (take (i + 1) s)
one_more s i h =
    ap (λ (x : List ℕ). pairs (take i s) ++ x) (sym (append-nil (pair (get_or s i 0))))
    ∙ sym (pairs_append (take i s) (get_or s i 0 ∷ []))
    ∙ ap pairs (sym (take_more s i 0 h))
