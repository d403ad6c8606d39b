-- The kinds of the number types. Assumes nothing.
use Rattle.std.specs.Prelude.{ℕ, cond, List, [], ◌∷◌, length, Some, None, Option, ◌==◌}
use Rattle.wire.specs.Numbers.{le_value, le_bytes}
use Rattle.types.specs.Meanings.{Meaning, absent, unsigned, signed, decimal, text, investor}
use Rattle.types.specs.Kinds.{Kind}
use Rattle.numbers.specs.declared.numeric.Form.{Form}
use Rattle.numbers.specs.declared.numeric.Numeric.{Numeric}
use Rattle.numbers.specs.Numerics.{bytes_in}
use Rattle.numbers.specs.Bits.{absent_bits, is_mark, value_of, bits_of}
use Rattle.numbers.specs.Codes.{listed}

-- ---- numbers of a form in w bytes, of which the bits `mark`, if any, mean absent

-- what bytes mean: they are a pattern if there are w of them, with the little end first
abbrev pub numeric_means : Form → ℕ → Option ℕ → List ℕ → Option Meaning
numeric_means form w mark s =
    cond (length s == w)
    (Some (cond (is_mark mark (le_value s)) absent (value_of form w (le_value s))))
    None

-- the bits, unless they are those that mean absent
abbrev pub other_than : Option ℕ → Option ℕ → Option ℕ
other_than mark None = None
other_than mark (Some n) = cond (is_mark mark n) None (Some n)

-- the bits that mean m: those that mean absent mean no value
abbrev pub numeric_bits : Form → ℕ → Option ℕ → Meaning → Option ℕ
numeric_bits form w mark absent = mark
numeric_bits form w mark (unsigned n) = other_than mark (bits_of form w (unsigned n))
numeric_bits form w mark (signed z) = other_than mark (bits_of form w (signed z))
numeric_bits form w mark (decimal z d) = other_than mark (bits_of form w (decimal z d))
numeric_bits form w mark (text s) = None
numeric_bits form w mark (investor a b) = None

abbrev pub in_bytes : ℕ → Option ℕ → Option (List ℕ)
in_bytes w None = None
in_bytes w (Some n) = Some (le_bytes w n)

-- the blank is the pattern that means absent; where there is none it is all zeros, which means zero
abbrev pub blank_bits : Option ℕ → ℕ
blank_bits None = 0
blank_bits (Some n) = n

abbrev pub blank_meaning : Form → ℕ → Option ℕ → Meaning
blank_meaning form w None = value_of form w 0
blank_meaning form w (Some n) = absent

abbrev pub form_kind : Form → ℕ → Option ℕ → Kind
form_kind form w mark = record {
  width = w;
  means = λ s. numeric_means form w mark s;
  pattern = λ m. in_bytes w (numeric_bits form w mark m);
  blank = le_bytes w (blank_bits mark);
  blank_means = blank_meaning form w mark;
}

abbrev pub numeric_kind : Numeric → Kind
numeric_kind t = form_kind t.form (bytes_in t.width) (absent_bits (bytes_in t.width) t.absent)

-- ---- one byte out of a list of codes

-- a byte means the code that it is; 00 means absent unless it is listed
abbrev pub code_means : List ℕ → List ℕ → Option Meaning
code_means codes [] = None
code_means codes (b ∷ []) = cond (listed b codes) (Some (unsigned b)) (cond (b == 0) (Some absent) None)
code_means codes (b ∷ (c ∷ s)) = None

abbrev pub code_pattern : List ℕ → Meaning → Option (List ℕ)
code_pattern codes absent = cond (listed 0 codes) None (Some (0 ∷ []))
code_pattern codes (unsigned n) = cond (listed n codes) (Some (n ∷ [])) None
code_pattern codes (signed z) = None
code_pattern codes (decimal z d) = None
code_pattern codes (text s) = None
code_pattern codes (investor a b) = None

-- the blank is 00: absent, or the value 0 where 00 is listed
abbrev pub codes_kind : List ℕ → Kind
codes_kind codes = record {
  width = 1;
  means = λ s. code_means codes s;
  pattern = λ m. code_pattern codes m;
  blank = 0 ∷ [];
  blank_means = cond (listed 0 codes) (unsigned 0) absent;
}
