-- What bits stand for, and the bits that stand for a value, are each other's inverse at any width.
use Rattle.std.specs.Prelude.{◌≡◌, ℕ, zero, suc, ◌*◌, ◌^◌, ◌<◌, ◌≤◌, ℤ, pos, negsuc, Some, FitsSigned, refl}
use Rattle.std.proofs.Math.Nat.{pow-succ', pow-le-pow_right}
use Rattle.std.proofs.Common.{arith, ap, ⊎_elim, lit<}
use Rattle.std.specs.Int.{w64}
use Rattle.std.proofs.lemmas.Bool.Decides.{nat_tests, leb_tells, eqb_tells}
use Rattle.types.specs.Meanings.{Meaning, absent, unsigned, signed, decimal, text, investor, Sayable}
use Rattle.numbers.specs.declared.numeric.Form.{Form}
use Rattle.numbers.specs.declared.numeric.Form.TheVariants.{Unsigned, Signed, Decimal}
use Rattle.numbers.specs.Bits.{top, signed_of, signed_bits, value_of, bits_of}

pub some_bits : (w : ℕ) → 0 < 256 ^ w
some_bits w =
    let h : 0 ≤ w = omega arith in
    let p : 256 ^ 0 ≤ 256 ^ w = pow-le-pow_right (lit< tt) h in
    let e : 256 ^ 0 ≡ 1 = refl in
    omega arith

-- with the top bit there are twice as many numbers as without it
pub twice_top : (w : ℕ) → 1 ≤ w → 256 ^ w ≡ 2 * top w
twice_top zero h = absurd (omega arith)
twice_top (suc v) h =
    let e : 256 ^ suc v ≡ 256 * 256 ^ v = pow-succ' 256 v in
    omega arith

module _ (w : ℕ) (wide : 1 ≤ w) where
  signed_written : (n : ℕ) → n < 256 ^ w → signed_bits w (signed_of w n) ≡ Some n
  signed_written n h =
      let t = twice_top w wide in
      ⊎_elim
      (λ a. let e = a.0 in rw e (rw e))
      (λ a. let e = a.0 in let l = a.1 in rw e (grind (arith, nat_tests)))
      (leb_tells (suc n) (top w))

  signed_read : (z : ℤ) (n : ℕ) → signed_bits w z ≡ Some n → (n < 256 ^ w) × (signed_of w n ≡ z)
  signed_read (pos k) n e = let t = twice_top w wide in (grind (arith, nat_tests), grind (arith, nat_tests))
  signed_read (negsuc k) n e = let t = twice_top w wide in (grind (arith, nat_tests), grind (arith, nat_tests))

  -- the bits of what bits stand for are those bits
  pub written_value : (form : Form) (n : ℕ) → n < 256 ^ w → bits_of form w (value_of form w n) ≡ Some n
  written_value Unsigned n h = grind (arith, nat_tests)
  written_value Signed n h = signed_written n h
  written_value (Decimal d) n h = let e = signed_written n h in grind (arith, nat_tests)

  -- the bits of a value fit the width and stand for it
  pub read_value : (form : Form) (m : Meaning) (n : ℕ) → bits_of form w m ≡ Some n → (n < 256 ^ w) × (value_of form w n ≡ m)
  read_value Unsigned absent n e = absurd (grind arith)
  read_value Signed absent n e = absurd (grind arith)
  read_value (Decimal d) absent n e = absurd (grind arith)
  read_value Unsigned (unsigned k) n e = (grind (arith, nat_tests), grind (arith, nat_tests))
  read_value Signed (unsigned k) n e = absurd (grind arith)
  read_value (Decimal d) (unsigned k) n e = absurd (grind arith)
  read_value Unsigned (signed z) n e = absurd (grind arith)
  read_value Signed (signed z) n e = let r = signed_read z n e in (r.0, ap signed r.1)
  read_value (Decimal d) (signed z) n e = absurd (grind arith)
  read_value Unsigned (decimal z k) n e = absurd (grind arith)
  read_value Signed (decimal z k) n e = absurd (grind arith)
  read_value (Decimal d) (decimal z k) n e =
      ⊎_elim
      (λ a.
      let e' : signed_bits w z ≡ Some n = rw a.0 at e in
      let r = signed_read z n e' in
      let same = a.1 in
      let back = r.1 in
      (r.0, cc))
      (λ a. let ne = a.0 in absurd (grind arith))
      (eqb_tells k d)
  read_value Unsigned (text s) n e = absurd (grind arith)
  read_value Signed (text s) n e = absurd (grind arith)
  read_value (Decimal d) (text s) n e = absurd (grind arith)
  read_value Unsigned (investor a b) n e = absurd (grind arith)
  read_value Signed (investor a b) n e = absurd (grind arith)
  read_value (Decimal d) (investor a b) n e = absurd (grind arith)

-- the decimals of a form fit a byte
abbrev pub FewDecimals : Form → Type 0
FewDecimals Unsigned = Unit {0}
FewDecimals Signed = Unit {0}
FewDecimals (Decimal decimals) = decimals < 2 ^ 8

-- ---- what at most 8 bytes stand for, the code can hold

module _ (w : ℕ) (wide : 1 ≤ w) (narrow : w ≤ 8) where
  few_bits : 256 ^ w ≤ 2 ^ 64
  few_bits = let p : 256 ^ w ≤ 256 ^ 8 = pow-le-pow_right (lit< tt) narrow in omega arith

  low_top : top w ≤ 2 ^ 63
  low_top = let t = twice_top w wide in let few = few_bits in omega arith

  signed_sayable : (z : ℤ) (n : ℕ) → signed_bits w z ≡ Some n → FitsSigned w64 z
  signed_sayable (pos k) n e = let low = low_top in let h : k < top w = grind (arith, nat_tests) in record { sfits = omega arith }
  signed_sayable (negsuc k) n e = let low = low_top in let h : k < top w = grind (arith, nat_tests) in record { sfits = omega arith }

  pub value_sayable : (form : Form) → FewDecimals form → (m : Meaning) (n : ℕ) → bits_of form w m ≡ Some n → Sayable m
  value_sayable form few absent n e = tt
  value_sayable Unsigned few (unsigned k) n e = let low = few_bits in let h : k < 256 ^ w = grind (arith, nat_tests) in omega arith
  value_sayable Signed few (unsigned k) n e = absurd (grind arith)
  value_sayable (Decimal d) few (unsigned k) n e = absurd (grind arith)
  value_sayable Unsigned few (signed z) n e = absurd (grind arith)
  value_sayable Signed few (signed z) n e = signed_sayable z n e
  value_sayable (Decimal d) few (signed z) n e = absurd (grind arith)
  value_sayable Unsigned few (decimal z k) n e = absurd (grind arith)
  value_sayable Signed few (decimal z k) n e = absurd (grind arith)
  value_sayable (Decimal d) few (decimal z k) n e =
      ⊎_elim
      (λ a.
      let e' : signed_bits w z ≡ Some n = rw a.0 at e in
      let same : k ≡ d = a.1 in
      (signed_sayable z n e', omega arith))
      (λ a. let ne = a.0 in absurd (grind arith))
      (eqb_tells k d)
  value_sayable Unsigned few (text s) n e = absurd (grind arith)
  value_sayable Signed few (text s) n e = absurd (grind arith)
  value_sayable (Decimal d) few (text s) n e = absurd (grind arith)
  value_sayable Unsigned few (investor a b) n e = absurd (grind arith)
  value_sayable Signed few (investor a b) n e = absurd (grind arith)
  value_sayable (Decimal d) few (investor a b) n e = absurd (grind arith)
