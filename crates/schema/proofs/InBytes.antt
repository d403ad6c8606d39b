-- Bytes taken apart into numbers and bytes, one behind the other, and put together again.
use Rattle.std.proofs.Common.{◌≡◌, ℕ, ◌+◌, ◌^◌, ◌<◌, ◌≤◌, List, ◌∷◌, ◌++◌, length, get_or, take, drop, sym, ap, ◌∙◌, subst, ap₂, arith, length-drop}
use Rattle.std.proofs.lemmas.List.{drop_more, drop-drop, take-append-drop, length-take-le}
use Rattle.std.proofs.ByRecursion.{All-drop, All-take, All-get_or}
use Rattle.wire.specs.Bytes.{Bytes}
use Rattle.wire.specs.Numbers.{be_value, be_bytes}
use Rattle.wire.proofs.Values.{be_bytes_of_value, be_value_below}

pub next_byte : (k : ℕ) (x rest : List ℕ) → k < length x → rest ≡ drop (k + 1) x → get_or x k 0 ∷ rest ≡ drop k x
next_byte k x rest h e = ap (λ t. get_or x k 0 ∷ t) e ∙ sym (drop_more x k 0 h)

long_enough : (k w : ℕ) (x : List ℕ) → k + w ≤ length x → length (take w (drop k x)) ≡ w
long_enough k w x h = length-take-le w (drop k x) (simp length-drop (omega arith))

pub bytes_at : (k w : ℕ) (x : List ℕ) → Bytes x → Bytes (take w (drop k x))
bytes_at k w x h = All-take (λ b. b < 256) w (drop k x) (All-drop (λ b. b < 256) k x h)

pub next_number : (k w : ℕ) (x rest : List ℕ) → Bytes x → k + w ≤ length x → rest ≡ drop (k + w) x → be_bytes w (be_value (take w (drop k x))) ++ rest ≡ drop k x
next_number k w x rest b h e =
    let part = take w (drop k x) in
    let n : be_bytes w (be_value part) ≡ part =
    ap (λ (m : ℕ). be_bytes m (be_value part)) (sym (long_enough k w x h)) ∙ be_bytes_of_value part (bytes_at k w x b) in
    ap₂ (λ u v. u ++ v) n (e ∙ sym (drop-drop w k x)) ∙ take-append-drop w (drop k x)

-- a number of w bytes has room in w bytes
pub number_below : (k w : ℕ) (x : List ℕ) → Bytes x → k + w ≤ length x → be_value (take w (drop k x)) < 256 ^ w
number_below k w x b h = subst (λ (m : ℕ). be_value (take w (drop k x)) < 256 ^ m) (long_enough k w x h) (be_value_below (take w (drop k x)) (bytes_at k w x b))

pub byte_below : (k : ℕ) (x : List ℕ) → Bytes x → k < length x → get_or x k 0 < 256
byte_below k x b h = All-get_or (λ y. y < 256) x k 0 h b
