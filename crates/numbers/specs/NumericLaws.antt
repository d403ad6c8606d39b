-- The kind of each type of numbers is lawful, at any width up to 8 bytes.
use Rattle.std.specs.Prelude.{◌≡◌, ℕ, ◌^◌, ◌<◌, ◌≤◌, true, false, cond, List, length, Some, None, Option, nat_eq, refl}
use Rattle.std.proofs.Common.{arith, ap, subst, ◌∙◌, ⊎_elim}
use Rattle.std.proofs.lemmas.Bool.Decides.{nat_tests, eqb_tells}
use Rattle.std.proofs.lemmas.Bool.{cases_Bool}
use Rattle.wire.specs.Bytes.{Bytes}
use Rattle.wire.specs.Numbers.{le_value, le_bytes}
use Rattle.wire.proofs.Values.{length_le_bytes, le_bytes_are_bytes, le_value_below, le_bytes_of_value, le_value_of_bytes}
use Rattle.types.specs.Meanings.{Meaning, absent, unsigned, signed, decimal, text, investor, Sayable}
use Rattle.types.specs.Kinds.{Lawful}
use Rattle.numbers.specs.declared.numeric.Form.{Form}
use Rattle.numbers.specs.declared.numeric.Form.TheVariants.{Unsigned, Signed, Decimal}
use Rattle.numbers.specs.declared.numeric.Width.{Width}
use Rattle.numbers.specs.declared.numeric.Width.TheVariants.{One, Two, Four, Eight}
use Rattle.numbers.specs.declared.numeric.Absent.{Absent}
use Rattle.numbers.specs.declared.numeric.Absent.TheVariants.{Never, Zero, Ones, Top}
use Rattle.numbers.specs.declared.numeric.Numeric.{Numeric}
use Rattle.numbers.specs.Numerics.{bytes_in}
use Rattle.numbers.specs.Bits.{ones, top, absent_bits, is_mark, value_of, bits_of}
use Rattle.numbers.specs.Kinds.{numeric_means, other_than, numeric_bits, in_bytes, blank_bits, blank_meaning, form_kind, numeric_kind}
use Rattle.numbers.specs.Stands.{some_bits, twice_top, written_value, read_value, FewDecimals, value_sayable}

mark_is : (mark : Option ℕ) (n : ℕ) → is_mark mark n ≡ true → mark ≡ Some n
mark_is None n e = absurd (grind arith)
mark_is (Some k) n e = grind (arith, nat_tests)

mark_marks : (mark : Option ℕ) (n : ℕ) → mark ≡ Some n → is_mark mark n ≡ true
mark_marks None n e = absurd (grind arith)
mark_marks (Some k) n e = grind (arith, nat_tests)

other_is : (mark bits : Option ℕ) (n : ℕ) → other_than mark bits ≡ Some n → (bits ≡ Some n) × (is_mark mark n ≡ false)
other_is mark None n e = absurd (grind arith)
other_is mark (Some k) n e =
    ⊎_elim
    (λ t. absurd (grind (arith, rw t at e)))
    (λ f. let same : Some k ≡ Some n = rw f at e in let s : k ≡ n = cc in (same, subst (λ (x : ℕ). is_mark mark x ≡ false) s f))
    (cases_Bool (is_mark mark k))

-- what bits mean
abbrev shown : Form → ℕ → Option ℕ → ℕ → Meaning
shown form w mark n = cond (is_mark mark n) absent (value_of form w n)

module _ (form : Form) (w : ℕ) (mark : Option ℕ) (wide : 1 ≤ w) where
  -- bits are those of what they mean
  shown_written : (n : ℕ) → n < 256 ^ w → numeric_bits form w mark (shown form w mark n) ≡ Some n
  shown_written n h =
      ⊎_elim
      (λ t. rw t (mark_is mark n t))
      (λ f. rw f (value_bits form ∙ ap (other_than mark) (written_value w wide form n h) ∙ rw f))
      (cases_Bool (is_mark mark n))
    where
      value_bits : (f : Form) → numeric_bits f w mark (value_of f w n) ≡ other_than mark (bits_of f w (value_of f w n))
      value_bits Unsigned = refl
      value_bits Signed = refl
      value_bits (Decimal d) = refl

  value_read : (m : Meaning) (n : ℕ) → other_than mark (bits_of form w m) ≡ Some n → (n < 256 ^ w) × (shown form w mark n ≡ m)
  value_read m n e =
      let o = other_is mark (bits_of form w m) n e in
      let r = read_value w wide form m n o.0 in
      (r.0, rw o.1 r.1)

  module _ (fits : (n : ℕ) → mark ≡ Some n → n < 256 ^ w) where
    -- the bits of a meaning fit the width and mean it
    shown_read : (m : Meaning) (n : ℕ) → numeric_bits form w mark m ≡ Some n → (n < 256 ^ w) × (shown form w mark n ≡ m)
    shown_read absent n e = (fits n e, rw (mark_marks mark n e))
    shown_read (unsigned k) n e = value_read (unsigned k) n e
    shown_read (signed z) n e = value_read (signed z) n e
    shown_read (decimal z d) n e = value_read (decimal z d) n e
    shown_read (text t) n e = absurd (grind arith)
    shown_read (investor a b) n e = absurd (grind arith)

    read_back : (m : Meaning) (s : List ℕ) (bits : Option ℕ) → numeric_bits form w mark m ≡ bits → in_bytes w bits ≡ Some s → numeric_means form w mark s ≡ Some m
    read_back m s None b e = absurd (grind arith)
    read_back m s (Some n) b e =
        let r = shown_read m n b in
        let same : le_bytes w n ≡ s = cc in
        let number : le_value (le_bytes w n) ≡ n = le_value_of_bytes w n r.0 in
        let long : nat_eq (length (le_bytes w n)) w ≡ true = grind (arith, nat_tests, length_le_bytes w n) in
        subst (λ (t : List ℕ). numeric_means form w mark t ≡ Some m) same (rw (long, number) (ap Some r.1))

    long_bytes : (s : List ℕ) (bits : Option ℕ) → in_bytes w bits ≡ Some s → (length s ≡ w) × Bytes s
    long_bytes s None e = absurd (grind arith)
    long_bytes s (Some n) e =
        let same : le_bytes w n ≡ s = cc in
        (subst (λ (t : List ℕ). length t ≡ w) same (length_le_bytes w n), subst Bytes same (le_bytes_are_bytes w n))

    written_back : (s : List ℕ) (m : Meaning) → Bytes s → numeric_means form w mark s ≡ Some m → in_bytes w (numeric_bits form w mark m) ≡ Some s
    written_back s m h e =
        ⊎_elim
        (λ a.
        let long : length s ≡ w = a.1 in
        let means : Some (shown form w mark (le_value s)) ≡ Some m = rw a.0 at e in
        let is : shown form w mark (le_value s) ≡ m = cc in
        let below : le_value s < 256 ^ w = subst (λ (k : ℕ). le_value s < 256 ^ k) long (le_value_below s h) in
        let bits : numeric_bits form w mark m ≡ Some (le_value s) = subst (λ (x : Meaning). numeric_bits form w mark x ≡ Some (le_value s)) is (shown_written (le_value s) below) in
        rw bits (ap Some (subst (λ (k : ℕ). le_bytes k (le_value s) ≡ s) long (le_bytes_of_value s h))))
        (λ a. absurd (grind (arith, rw a.0 at e)))
        (eqb_tells (length s) w)

    -- the pattern of what the blank means
    blank_is : (k : Option ℕ) → mark ≡ k → in_bytes w (numeric_bits form w mark (blank_meaning form w k)) ≡ Some (le_bytes w (blank_bits k))
    blank_is None e =
        let unmarked : is_mark mark 0 ≡ false = rw e in
        let written = shown_written 0 (some_bits w) in
        ap (in_bytes w) (rw unmarked at written)
    blank_is (Some n) e = ap (in_bytes w) e

    absent_is : (s : List ℕ) (k : Option ℕ) → in_bytes w k ≡ Some s → s ≡ le_bytes w (blank_bits k)
    absent_is s None e = absurd (grind arith)
    absent_is s (Some n) e = cc

    module _ (narrow : w ≤ 8) (few : FewDecimals form) where
      -- what has bits, the code can hold
      other_sayable : (m : Meaning) (n : ℕ) → other_than mark (bits_of form w m) ≡ Some n → Sayable m
      other_sayable m n e = value_sayable w wide narrow form few m n (other_is mark (bits_of form w m) n e).0

      bits_sayable : (m : Meaning) (n : ℕ) → numeric_bits form w mark m ≡ Some n → Sayable m
      bits_sayable absent n e = tt
      bits_sayable (unsigned k) n e = other_sayable (unsigned k) n e
      bits_sayable (signed z) n e = other_sayable (signed z) n e
      bits_sayable (decimal z d) n e = other_sayable (decimal z d) n e
      bits_sayable (text t) n e = absurd (grind arith)
      bits_sayable (investor a b) n e = absurd (grind arith)

      sayable : (m : Meaning) (s : List ℕ) (bits : Option ℕ) → numeric_bits form w mark m ≡ bits → in_bytes w bits ≡ Some s → Sayable m
      sayable m s None b e = absurd (grind arith)
      sayable m s (Some n) b e = bits_sayable m n b

    form_lawful : w ≤ 8 → FewDecimals form → Lawful (form_kind form w mark)
    form_lawful narrow few = record {
      least = wide;
      most = omega arith;
      long = λ m s e. (long_bytes s (numeric_bits form w mark m) e).0;
      bytes = λ m s e. (long_bytes s (numeric_bits form w mark m) e).1;
      read_back = λ m s e. read_back m s (numeric_bits form w mark m) refl e;
      written_back = written_back;
      blank_is = blank_is mark refl;
      absent_is = λ s e. absent_is s mark e;
      sayable = λ m s e. sayable narrow few m s (numeric_bits form w mark m) refl e;
    }

wide_enough : (width : Width) → (1 ≤ bytes_in width) × (bytes_in width ≤ 8)
wide_enough One = (omega arith, omega arith)
wide_enough Two = (omega arith, omega arith)
wide_enough Four = (omega arith, omega arith)
wide_enough Eight = (omega arith, omega arith)

-- the bits that mean absent fit the width
absent_fits : (w : ℕ) → 1 ≤ w → (rule : Absent) (n : ℕ) → absent_bits w rule ≡ Some n → n < 256 ^ w
absent_fits w wide Never n e = absurd (grind arith)
absent_fits w wide Zero n e = let is : 0 ≡ n = cc in omega (arith, twice_top w wide, some_bits w)
absent_fits w wide Ones n e = let is : ones w ≡ n = cc in omega (arith, twice_top w wide, some_bits w)
absent_fits w wide Top n e = let is : top w ≡ n = cc in omega (arith, twice_top w wide, some_bits w)

pub numeric_lawful : (t : Numeric) → FewDecimals t.form → Lawful (numeric_kind t)
numeric_lawful t few =
    let w = bytes_in t.width in
    let wide = wide_enough t.width in
    form_lawful t.form w (absent_bits w t.absent) wide.0 (absent_fits w wide.0 t.absent) wide.1 few
