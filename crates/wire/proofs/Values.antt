-- Numbers in bytes: reading and writing are each other's inverse, at any width.
use Rattle.std.proofs.Common.{Fits, w8, ◌≡◌, ℕ, zero, suc, ◌+◌, ◌-◌, ◌*◌, ◌/◌, ◌%◌, ◌^◌, ◌<◌, ◌≤◌, List, [], ◌∷◌, ◌++◌, reverse, length, get_or, take, set, sym, refl, ap, ◌∙◌, subst, append_assoc, lt_of_lt_of_le, arith, lit<, length-take}
use native.Mathlib.Nat.{pow-succ', pow-le-pow_right}
use Rattle.std.proofs.lemmas.List.{take_more, take_more_set, length-set, append-nil, take_all, reverse-append, reverse-reverse, length-reverse}
use Rattle.std.proofs.ByRecursion.{All-from_get_or, All-take, All-append}
use Rattle.wire.specs.Bytes.{Bytes}
use Rattle.wire.specs.Numbers.{le_value, le_bytes, be_value, be_bytes}

-- ---- the little end first

pub length_le_bytes : (w n : ℕ) → length (le_bytes w n) ≡ w
length_le_bytes zero n = refl
length_le_bytes (suc w) n = ap suc (length_le_bytes w (n / 256))

pub le_bytes_are_bytes : (w n : ℕ) → Bytes (le_bytes w n)
le_bytes_are_bytes zero n = tt
le_bytes_are_bytes (suc w) n = (omega arith, le_bytes_are_bytes w (n / 256))

pub le_value_below : (s : List ℕ) → Bytes s → le_value s < 256 ^ length s
le_value_below [] h = lit< tt
le_value_below (b ∷ s) h =
    let e : 256 ^ suc (length s) ≡ 256 * 256 ^ length s = pow-succ' 256 (length s) in
    let v : le_value s < 256 ^ length s = le_value_below s h.1 in
    omega arith

-- writing what was read gives the bytes
pub le_bytes_of_value : (s : List ℕ) → Bytes s → le_bytes (length s) (le_value s) ≡ s
le_bytes_of_value [] h = refl
le_bytes_of_value (b ∷ s) h =
    let low : (b + 256 * le_value s) % 256 ≡ b = omega arith in
    let high : (b + 256 * le_value s) / 256 ≡ le_value s = omega arith in
    ap (λ (x : ℕ). x ∷ le_bytes (length s) ((b + 256 * le_value s) / 256)) low
    ∙ ap (λ (n : ℕ). b ∷ le_bytes (length s) n) high
    ∙ ap (λ (t : List ℕ). b ∷ t) (le_bytes_of_value s h.1)

-- reading what was written gives the number
pub le_value_of_bytes : (w n : ℕ) → n < 256 ^ w → le_value (le_bytes w n) ≡ n
le_value_of_bytes zero n h =
    let e : 256 ^ 0 ≡ 1 = refl in
    omega arith
le_value_of_bytes (suc w) n h =
    let e : 256 ^ suc w ≡ 256 * 256 ^ w = pow-succ' 256 w in
    let below : n / 256 < 256 ^ w = omega arith in
    let rest : le_value (le_bytes w (n / 256)) ≡ n / 256 = le_value_of_bytes w (n / 256) below in
    omega arith

-- ---- the big end first

pub bytes_reverse : (s : List ℕ) → Bytes s → Bytes (reverse s)
bytes_reverse [] h = tt
bytes_reverse (b ∷ s) h =
    subst Bytes (sym (reverse-append (b ∷ []) s)) (All-append (λ x. x < 256) (reverse s) (b ∷ []) (bytes_reverse s h.1) (h.0, tt))

pub be_value_below : (s : List ℕ) → Bytes s → be_value s < 256 ^ length s
be_value_below s h = subst (λ (k : ℕ). be_value s < 256 ^ k) (length-reverse s) (le_value_below (reverse s) (bytes_reverse s h))

pub be_bytes_of_value : (s : List ℕ) → Bytes s → be_bytes (length s) (be_value s) ≡ s
be_bytes_of_value s h =
    ap (λ (k : ℕ). reverse (le_bytes k (be_value s))) (sym (length-reverse s))
    ∙ ap reverse (le_bytes_of_value (reverse s) (bytes_reverse s h))
    ∙ reverse-reverse s

pub be_value_of_bytes : (w n : ℕ) → n < 256 ^ w → be_value (be_bytes w n) ≡ n
be_value_of_bytes w n h = ap le_value (reverse-reverse (le_bytes w n)) ∙ le_value_of_bytes w n h

pub length_be_bytes : (w n : ℕ) → length (be_bytes w n) ≡ w
length_be_bytes w n = length-reverse (le_bytes w n) ∙ length_le_bytes w n

pub be_bytes_are_bytes : (w n : ℕ) → Bytes (be_bytes w n)
be_bytes_are_bytes w n = bytes_reverse (le_bytes w n) (le_bytes_are_bytes w n)

pub be_value_push : (s : List ℕ) (b : ℕ) → be_value (s ++ (b ∷ [])) ≡ be_value s * 256 + b
be_value_push s b =
    let e : le_value (reverse (s ++ (b ∷ []))) ≡ b + 256 * le_value (reverse s) = ap le_value (reverse-append s (b ∷ [])) in
    omega (arith, e)

-- what the type of a slice of bytes says of its elements
pub bytes_held : (s : List ℕ) → ((i : ℕ) → Fits w8 (get_or s i 0)) → Bytes s
bytes_held s h = All-from_get_or (λ b. b < 256) s 0 (λ i _. (h i).fits)

-- ---- the loops

-- eight bytes are below 2 ^ 64
pub below_64 : (n k : ℕ) → n < 256 ^ k → k ≤ 8 → n < 2 ^ 64
below_64 n k h l = lt_of_lt_of_le h (pow-le-pow_right (lit< tt) l)

pub be_turn : (s : List ℕ) (i n d : ℕ) → i < length s → n ≡ be_value (take i s) → n * 256 + get_or s i d ≡ be_value (take (i + 1) s)
be_turn s i n d h e =
    let step = ap be_value (take_more s i d h) ∙ be_value_push (take i s) (get_or s i d) in
    omega (arith, step, e)

-- the number that a turn of the loop makes fits in eight bytes
pub be_fits : (s : List ℕ) (i n d : ℕ) → Bytes s → length s ≤ 8 → i < length s → n ≡ be_value (take i s) → n * 256 + get_or s i d < 2 ^ 64
be_fits s i n d h l below e =
    let turn = be_turn s i n d below e in
    let short : length (take (i + 1) s) ≤ 8 = simp length-take (omega arith) in
    let fits = below_64 _ (length (take (i + 1) s)) (be_value_below (take (i + 1) s) (All-take (λ b. b < 256) (i + 1) s h)) short in
    omega (arith, turn, fits)

-- the same from the last byte to the first, b among the bytes in reverse
pub le_turn : (s : List ℕ) (i n b : ℕ) → (i < length (reverse s)) × (b ≡ get_or (reverse s) i b) → n ≡ be_value (take i (reverse s)) → n * 256 + b ≡ be_value (take (i + 1) (reverse s))
le_turn s i n b h e = ap (λ (x : ℕ). n * 256 + x) h.1 ∙ be_turn (reverse s) i n b h.0 e

pub le_fits : (s : List ℕ) (i n b : ℕ) → Bytes s → length s ≤ 8 → (i < length (reverse s)) × (b ≡ get_or (reverse s) i b) → n ≡ be_value (take i (reverse s)) → n * 256 + b < 2 ^ 64
le_fits s i n b known l h e =
    let fits = be_fits (reverse s) i n b (bytes_reverse s known) (rw length-reverse l) h.0 e in
    omega (arith, h.1, fits)

pub put_step : (out : List ℕ) (i left n : ℕ) → i < length out → take i out ++ le_bytes (length out - i) left ≡ le_bytes (length out) n → take (i + 1) (set out i (left % 256)) ++ le_bytes (length (set out i (left % 256)) - (i + 1)) (left / 256) ≡ le_bytes (length (set out i (left % 256))) n
put_step out i left n h inv =
    let b = left % 256 in
    let rest = le_bytes (length out - (i + 1)) (left / 256) in
    let e : length out - i ≡ suc (length out - (i + 1)) = omega arith in
    let opened : le_bytes (length out - i) left ≡ b ∷ rest = ap (λ (k : ℕ). le_bytes k left) e in
    let all : (take i out ++ (b ∷ [])) ++ rest ≡ le_bytes (length out) n =
    append_assoc (take i out) (b ∷ []) rest ∙ ap (λ (t : List ℕ). take i out ++ t) (sym opened) ∙ inv in
    simp (length-set, take_more_set out i b h) all

pub put_all : (out : List ℕ) (i left n : ℕ) → length out ≤ i → take i out ++ le_bytes (length out - i) left ≡ le_bytes (length out) n → out ≡ le_bytes (length out) n
put_all out i left n h inv =
    let e : length out - i ≡ 0 = omega arith in
    let none : le_bytes (length out - i) left ≡ [] = ap (λ (k : ℕ). le_bytes k left) e in
    sym (append-nil out) ∙ ap (λ (t : List ℕ). out ++ t) (sym none) ∙ ap (λ (t : List ℕ). t ++ le_bytes (length out - i) left) (sym (take_all i out h)) ∙ inv
