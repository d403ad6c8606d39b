-- The investor is lawful.
use Rattle.std.specs.Prelude.{◌≡◌, ℕ, ◌+◌, ◌^◌, ◌<◌, ◌≤◌, true, false, cond, ◌&&◌, List, [], ◌∷◌, ◌++◌, length, take, drop, Some, ◌==◌, refl}
use Rattle.std.proofs.Common.{arith, sym, ap, ap₂, subst, ◌∙◌, ⊎_elim, length-drop}
use Rattle.std.proofs.lemmas.List.{length-take-le}
use Rattle.std.proofs.ByRecursion.{All-take, All-drop}
use Rattle.std.proofs.lemmas.Bool.{eqb-true, and_parts, cases_Bool}
use Rattle.std.proofs.lemmas.Bool.Decides.{nat_tests}
use Rattle.wire.specs.Bytes.{Bytes}
use Rattle.wire.specs.Numbers.{le_value, le_bytes}
use Rattle.wire.proofs.Values.{le_bytes_are_bytes, le_bytes_of_value, le_value_of_bytes, le_value_below}
use Rattle.types.specs.Meanings.{Meaning, absent, unsigned, signed, decimal, text, investor, Sayable}
use Rattle.types.specs.Kinds.{Lawful}
use Rattle.text.specs.Texts.{only_zeros, zeros}
use Rattle.text.specs.Investors.{nobody, investor_of, investor_means, is_investor, investor_pattern, investor_kind}
use Rattle.std.proofs.lemmas.Option.{same_Some, none-some, cond_some}

-- the bytes of a prefix and a document
abbrev laid : ℕ → ℕ → List ℕ
laid p d = le_bytes 2 p ++ (0 ∷ 0 ∷ le_bytes 4 d)

laid_bytes : (p d : ℕ) → Bytes (laid p d)
laid_bytes p d =
    let front = le_bytes_are_bytes 2 p in
    let back = le_bytes_are_bytes 4 d in
    (front.0, (front.1.0, (omega arith, (omega arith, back))))

-- neither is 0, and both fit
somebody : (p d : ℕ) → is_investor p d ≡ true → (nobody p d ≡ false) × (p < 65536) × (d < 4294967296)
somebody p d e = (grind (arith, nat_tests), grind (arith, nat_tests), grind (arith, nat_tests))

fitting : (p d : ℕ) → nobody p d ≡ false → p < 65536 → d < 4294967296 → is_investor p d ≡ true
fitting p d a b e = grind (arith, nat_tests)

both_zero : (p d : ℕ) → nobody p d ≡ true → (p ≡ 0) × (d ≡ 0)
both_zero p d e = (grind (arith, nat_tests), grind (arith, nat_tests))

laid_means : (p d : ℕ) → is_investor p d ≡ true → investor_means (laid p d) ≡ Some (investor p d)
laid_means p d e =
    let h = somebody p d e in
    let a : le_value (le_bytes 2 p) ≡ p = le_value_of_bytes 2 p h.1 in
    let b : le_value (le_bytes 4 d) ≡ d = le_value_of_bytes 4 d h.2 in
    ap₂ (λ x y. Some (investor_of x y)) a b ∙ ap (λ x. Some (cond x absent (investor p d))) h.0

-- eight bytes whose middle is zero are those of the two numbers in them
laid_back : (s : List ℕ) → Bytes s → length s ≡ 8 → only_zeros (take 2 (drop 2 s)) ≡ true → laid (le_value (take 2 s)) (le_value (take 4 (drop 4 s))) ≡ s
laid_back [] h l z = absurd (omega arith)
laid_back (a ∷ []) h l z = absurd (omega arith)
laid_back (a ∷ (b ∷ [])) h l z = absurd (omega arith)
laid_back (a ∷ (b ∷ (c ∷ []))) h l z = absurd (omega arith)
laid_back (a ∷ (b ∷ (c ∷ (d ∷ [])))) h l z = absurd (omega arith)
laid_back (a ∷ (b ∷ (c ∷ (d ∷ (i ∷ []))))) h l z = absurd (omega arith)
laid_back (a ∷ (b ∷ (c ∷ (d ∷ (i ∷ (j ∷ [])))))) h l z = absurd (omega arith)
laid_back (a ∷ (b ∷ (c ∷ (d ∷ (i ∷ (j ∷ (k ∷ []))))))) h l z = absurd (omega arith)
laid_back (a ∷ (b ∷ (c ∷ (d ∷ (i ∷ (j ∷ (k ∷ (o ∷ [])))))))) h l z =
    let p = and_parts (c == 0) (only_zeros (d ∷ [])) z in
    let q = and_parts (d == 0) true p.1 in
    let front : le_bytes 2 (le_value (a ∷ b ∷ [])) ≡ a ∷ b ∷ [] = le_bytes_of_value (a ∷ b ∷ []) (h.0, (h.1.0, tt)) in
    let back : le_bytes 4 (le_value (i ∷ j ∷ k ∷ o ∷ [])) ≡ i ∷ j ∷ k ∷ o ∷ [] = le_bytes_of_value (i ∷ j ∷ k ∷ o ∷ []) h.1.1.1.1 in
    ap₂ (λ x y. x ++ (0 ∷ 0 ∷ y)) front back
    ∙ ap₂ (λ x y. a ∷ b ∷ x ∷ y ∷ i ∷ j ∷ k ∷ o ∷ []) (sym (eqb-true c 0 p.0)) (sym (eqb-true d 0 q.0))
laid_back (a ∷ (b ∷ (c ∷ (d ∷ (i ∷ (j ∷ (k ∷ (o ∷ (x ∷ s))))))))) h l z = absurd (omega arith)

-- k bytes are a number below 256 ^ k
part_below : (s : List ℕ) (i k : ℕ) → Bytes s → i + k ≤ length s → le_value (take k (drop i s)) < 256 ^ k
part_below s i k h l =
    let long : length (take k (drop i s)) ≡ k = length-take-le k (drop i s) (simp length-drop (omega arith)) in
    subst (λ n. le_value (take k (drop i s)) < 256 ^ n) long
    (le_value_below (take k (drop i s)) (All-take (λ b. b < 256) k (drop i s) (All-drop (λ b. b < 256) i s h)))

-- ---- the laws

long : (m : Meaning) (s : List ℕ) → investor_pattern m ≡ Some s → length s ≡ 8
long absent s e = ap length (sym (same_Some (zeros 8) s e))
long (unsigned n) s e = absurd (none-some s e)
long (signed z) s e = absurd (none-some s e)
long (decimal z n) s e = absurd (none-some s e)
long (text t) s e = absurd (none-some s e)
long (investor p d) s e = ap length (sym (cond_some (is_investor p d) (laid p d) s e).1)

bytes : (m : Meaning) (s : List ℕ) → investor_pattern m ≡ Some s → Bytes s
bytes absent s e = subst Bytes (same_Some (zeros 8) s e) (laid_bytes 0 0)
bytes (unsigned n) s e = absurd (none-some s e)
bytes (signed z) s e = absurd (none-some s e)
bytes (decimal z n) s e = absurd (none-some s e)
bytes (text t) s e = absurd (none-some s e)
bytes (investor p d) s e = subst Bytes (cond_some (is_investor p d) (laid p d) s e).1 (laid_bytes p d)

read_back : (m : Meaning) (s : List ℕ) → investor_pattern m ≡ Some s → investor_means s ≡ Some m
read_back absent s e = ap investor_means (sym (same_Some (zeros 8) s e))
read_back (unsigned n) s e = absurd (none-some s e)
read_back (signed z) s e = absurd (none-some s e)
read_back (decimal z n) s e = absurd (none-some s e)
read_back (text t) s e = absurd (none-some s e)
read_back (investor p d) s e =
    let g = cond_some (is_investor p d) (laid p d) s e in
    subst (λ x. investor_means x ≡ Some (investor p d)) g.1 (laid_means p d g.0)

-- the pattern of what a prefix and a document are
pattern_back : (p d : ℕ) (s : List ℕ) → laid p d ≡ s → p < 65536 → d < 4294967296 → investor_pattern (investor_of p d) ≡ Some s
pattern_back p d s l a b =
    ⊎_elim
    (λ e.
    let z = both_zero p d e in
    rw e (ap Some (sym (ap₂ laid z.0 z.1) ∙ l)))
    (λ e. rw e (rw (fitting p d e a b) (ap Some l)))
    (cases_Bool (nobody p d))

written_back : (s : List ℕ) (m : Meaning) → Bytes s → investor_means s ≡ Some m → investor_pattern m ≡ Some s
written_back s m h e =
    let p = le_value (take 2 s) in
    let d = le_value (take 4 (drop 4 s)) in
    let g = cond_some (length s == 8 && only_zeros (take 2 (drop 2 s))) (investor_of p d) m e in
    let q = and_parts (length s == 8) (only_zeros (take 2 (drop 2 s))) g.0 in
    let l : length s ≡ 8 = eqb-true (length s) 8 q.0 in
    subst (λ x. investor_pattern x ≡ Some s) g.1
    (pattern_back p d s (laid_back s h l q.1) (part_below s 0 2 h (omega arith)) (part_below s 4 4 h (omega arith)))

-- the prefix and the document fit
sayable : (m : Meaning) (s : List ℕ) → investor_pattern m ≡ Some s → Sayable m
sayable absent s e = tt
sayable (unsigned n) s e = absurd (none-some s e)
sayable (signed z) s e = absurd (none-some s e)
sayable (decimal z n) s e = absurd (none-some s e)
sayable (text t) s e = absurd (none-some s e)
sayable (investor p d) s e =
    let h = somebody p d (cond_some (is_investor p d) (laid p d) s e).0 in
    (h.1, h.2)

pub investor_lawful : Lawful investor_kind
investor_lawful =
    record {
      least = omega arith;
      most = omega arith;
      long = long;
      bytes = bytes;
      read_back = read_back;
      written_back = written_back;
      blank_is = refl;
      absent_is = λ s e. sym (same_Some (zeros 8) s e);
      sayable = sayable;
    }
