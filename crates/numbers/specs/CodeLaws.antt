-- The kind of each list of codes is lawful.
use Rattle.std.specs.Prelude.{◌≡◌, ℕ, ◌+◌, ◌<◌, true, false, cond, ◌&&◌, List, [], ◌∷◌, length, Some, None, ◌==◌, nat_le, nat_lt, refl}
use Rattle.std.proofs.Common.{arith, sym, ap, subst, ⊎_elim, lit<, lit≤}
use Rattle.std.proofs.lemmas.Bool.Decides.{eqb_tells}
use Rattle.std.proofs.lemmas.Bool.{cases_Bool, and_parts, or_cases, ltb-true, eqb-true}
use Rattle.wire.specs.Bytes.{Bytes}
use Rattle.types.specs.Meanings.{Meaning, absent, unsigned, signed, decimal, text, investor, Sayable}
use Rattle.types.specs.Kinds.{Lawful}
use Rattle.numbers.specs.Codes.{rising_from, code_list, listed}
use Rattle.numbers.specs.Kinds.{code_means, code_pattern, codes_kind}

rising_bytes : (low : ℕ) (s : List ℕ) → rising_from low s ≡ true → Bytes s
rising_bytes low [] e = tt
rising_bytes low (b ∷ s) e =
    let p = and_parts (nat_le low b && nat_lt b 256) (rising_from (b + 1) s) e in
    let q = and_parts (nat_le low b) (nat_lt b 256) p.0 in
    (ltb-true b 256 q.1, rising_bytes (b + 1) s p.1)

listed_byte : (n : ℕ) (s : List ℕ) → Bytes s → listed n s ≡ true → n < 256
listed_byte n [] h e = absurd (grind arith)
listed_byte n (b ∷ s) h e =
    ⊎_elim
    (λ t. let is = eqb-true b n t in let small = h.0 in omega arith)
    (λ t. listed_byte n s h.1 t)
    (or_cases (b == n) (listed n s) e)

module _ (codes : List ℕ) (bytes : Bytes codes) where
  code_bytes : (m : Meaning) (s : List ℕ) → code_pattern codes m ≡ Some s → (length s ≡ 1) × Bytes s × (code_means codes s ≡ Some m)
  code_bytes absent s e =
      ⊎_elim
      (λ t. absurd (grind (arith, rw t at e)))
      (λ f.
      let same : Some (0 ∷ []) ≡ Some s = rw f at e in
      let is : 0 ∷ [] ≡ s = cc in
      subst (λ (x : List ℕ). (length x ≡ 1) × Bytes x × (code_means codes x ≡ Some absent)) is (refl, (lit< tt, tt), rw f))
      (cases_Bool (listed 0 codes))
  code_bytes (unsigned n) s e =
      ⊎_elim
      (λ t.
      let same : Some (n ∷ []) ≡ Some s = rw t at e in
      let is : n ∷ [] ≡ s = cc in
      subst (λ (x : List ℕ). (length x ≡ 1) × Bytes x × (code_means codes x ≡ Some (unsigned n))) is (refl, (listed_byte n codes bytes t, tt), rw t))
      (λ f. absurd (grind (arith, rw f at e)))
      (cases_Bool (listed n codes))
  code_bytes (signed z) s e = absurd (grind arith)
  code_bytes (decimal z d) s e = absurd (grind arith)
  code_bytes (text t) s e = absurd (grind arith)
  code_bytes (investor a b) s e = absurd (grind arith)

  code_written : (s : List ℕ) (m : Meaning) → code_means codes s ≡ Some m → code_pattern codes m ≡ Some s
  code_written [] m e = absurd (grind arith)
  code_written (b ∷ []) m e =
      ⊎_elim
      (λ t.
      let same : Some (unsigned b) ≡ Some m = rw t at e in
      let is : unsigned b ≡ m = cc in
      subst (λ (x : Meaning). code_pattern codes x ≡ Some (b ∷ [])) is (rw t))
      (λ f.
      let rest : cond (b == 0) (Some absent) None ≡ Some m = rw f at e in
      ⊎_elim
      (λ a.
      let same : Some absent ≡ Some m = rw a.0 at rest in
      let is : absent ≡ m = cc in
      let zeroed : b ≡ 0 = a.1 in
      let unlisted : listed 0 codes ≡ false = subst (λ (x : ℕ). listed x codes ≡ false) zeroed f in
      subst (λ (x : Meaning). code_pattern codes x ≡ Some (b ∷ [])) is (rw unlisted (ap (λ (x : ℕ). Some (x ∷ [])) (sym zeroed))))
      (λ a. absurd (grind (arith, rw a.0 at rest)))
      (eqb_tells b 0))
      (cases_Bool (listed b codes))
  code_written (b ∷ (c ∷ s)) m e = absurd (grind arith)

  code_blank : code_pattern codes (cond (listed 0 codes) (unsigned 0) absent) ≡ Some (0 ∷ [])
  code_blank = ⊎_elim (λ t. rw t (rw t)) (λ f. rw f (rw f)) (cases_Bool (listed 0 codes))

  code_absent : (s : List ℕ) → code_pattern codes absent ≡ Some s → s ≡ 0 ∷ []
  code_absent s e =
      ⊎_elim
      (λ t. absurd (grind (arith, rw t at e)))
      (λ f. let same : Some (0 ∷ []) ≡ Some s = rw f at e in cc)
      (cases_Bool (listed 0 codes))

  -- a code is a byte
  code_sayable : (m : Meaning) (s : List ℕ) → code_pattern codes m ≡ Some s → Sayable m
  code_sayable absent s e = tt
  code_sayable (unsigned n) s e =
      ⊎_elim
      (λ t. let small = listed_byte n codes bytes t in omega arith)
      (λ f. absurd (grind (arith, rw f at e)))
      (cases_Bool (listed n codes))
  code_sayable (signed z) s e = absurd (grind arith)
  code_sayable (decimal z d) s e = absurd (grind arith)
  code_sayable (text t) s e = absurd (grind arith)
  code_sayable (investor a b) s e = absurd (grind arith)

  lawful_of_bytes : Lawful (codes_kind codes)
  lawful_of_bytes = record {
    least = lit≤ tt;
    most = lit≤ tt;
    long = λ m s e. (code_bytes m s e).0;
    bytes = λ m s e. (code_bytes m s e).1;
    read_back = λ m s e. (code_bytes m s e).2;
    written_back = λ s m _ e. code_written s m e;
    blank_is = code_blank;
    absent_is = code_absent;
    sayable = code_sayable;
  }

pub codes_lawful : (codes : List ℕ) → code_list codes ≡ true → Lawful (codes_kind codes)
codes_lawful codes e = lawful_of_bytes codes (rising_bytes 0 codes (and_parts _ (rising_from 0 codes) e).1)
