-- What the bytes at a place can state.
use Rattle.std.proofs.Common.{ℕ, ◌^◌, ◌<◌, ◌≤◌, List, [], ◌∷◌, length, take, drop, lt_of_lt_of_le, arith, lit<, length-take}
use native.Mathlib.Nat.{pow-le-pow_right}
use Rattle.std.proofs.ByRecursion.{All-take, All-drop}
use Rattle.wire.specs.Bytes.{Bytes}
use Rattle.wire.specs.Numbers.{le_value}
use Rattle.wire.proofs.Values.{le_value_below}
use Rattle.message.specs.Frames.{entry_length, entry_count, content_length}

narrow : (n : ℕ) (s : List ℕ) → Bytes s → le_value (take n s) < 256 ^ n
narrow n s h =
    let short : length (take n s) ≤ n = simp length-take (omega arith) in
    lt_of_lt_of_le (le_value_below (take n s) (All-take (λ b. b < 256) n s h)) (pow-le-pow_right (lit< tt) short)

pub length_narrow : (bs : List ℕ) (p : ℕ) → Bytes bs → entry_length (drop p bs) ≤ 65535
length_narrow bs p h = let n : le_value (take 2 (drop p bs)) < 65536 = narrow 2 (drop p bs) (All-drop (λ b. b < 256) p bs h) in omega arith

pub content_short : (bs : List ℕ) (p : ℕ) → Bytes bs → content_length 1 (drop p bs) ≤ 255
content_short bs p h = let n : le_value (take 1 (drop p bs)) < 256 = narrow 1 (drop p bs) (All-drop (λ b. b < 256) p bs h) in omega arith

few : (s : List ℕ) → Bytes s → entry_count s ≤ 255
few [] h = omega arith
few (a ∷ []) h = omega arith
few (a ∷ (b ∷ [])) h = omega arith
few (a ∷ (b ∷ (n ∷ s))) h = let below : n < 256 = h.1.1.0 in omega arith

pub count_few : (bs : List ℕ) (p : ℕ) → Bytes bs → entry_count (drop p bs) ≤ 255
count_few bs p h = few (drop p bs) (All-drop (λ b. b < 256) p bs h)
