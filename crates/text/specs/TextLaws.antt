-- Text of each width from 1 to 20 is lawful.
use Rattle.std.specs.Prelude.{◌≡◌, ℕ, zero, suc, ◌+◌, ◌-◌, ◌<◌, ◌≤◌, Bool, true, false, cond, not, ◌&&◌, List, [], ◌∷◌, ◌++◌, length, take, drop, Some, ◌==◌, ◌≢◌, nat_le, refl}
use Rattle.std.proofs.Common.{arith, sym, ap, subst, ◌∙◌, ⊎_elim, length-append, length-drop}
use Rattle.std.specs.List.{prefix_len}
use Rattle.std.proofs.lemmas.List.{take_at, drop_at, take-append-drop, length-take-le, length-replicate}
use Rattle.std.proofs.ByRecursion.{All-append}
use Rattle.std.proofs.lemmas.List.Sums.{prefix_len-le-length}
use Rattle.std.proofs.lemmas.Bool.{eq-eqb, ne_eqb, eqb-true, and_parts}
use Rattle.std.proofs.lemmas.Bool.Decides.{nat_tests, eqb_tells}
use Rattle.wire.specs.Bytes.{Bytes}
use Rattle.types.specs.Meanings.{Meaning, absent, unsigned, signed, decimal, text, investor, Sayable}
use Rattle.types.specs.Kinds.{Lawful}
use Rattle.text.specs.Texts.{character, only_zeros, zeros, text_of, counted_text, text_means, holds, text_pattern, text_kind}
use Rattle.std.proofs.lemmas.Option.{same_Some, none-some, cond_some}

-- ---- zeros

zeros_are_bytes : (k : ℕ) → Bytes (zeros k)
zeros_are_bytes zero = tt
zeros_are_bytes (suc k) = (omega arith, zeros_are_bytes k)

zeros_are_zeros : (k : ℕ) → only_zeros (zeros k) ≡ true
zeros_are_zeros zero = refl
zeros_are_zeros (suc k) = zeros_are_zeros k

only_zeros_is : (s : List ℕ) → only_zeros s ≡ true → s ≡ zeros (length s)
only_zeros_is [] e = refl
only_zeros_is (b ∷ s) e =
    let p = and_parts (b == 0) (only_zeros s) e in
    ap (λ x. x ∷ s) (eqb-true b 0 p.0) ∙ ap (λ t. 0 ∷ t) (only_zeros_is s p.1)

-- ---- characters

one_more : (b : Bool) (n l : ℕ) → cond b (1 + n) 0 ≡ suc l → (b ≡ true) × (n ≡ l)
one_more true n l e = (refl, omega arith)
one_more false n l e = absurd (omega arith)

counted_more : (b : Bool) (n l : ℕ) → b ≡ true → n ≡ l → cond b (1 + n) 0 ≡ suc l
counted_more true n l h e = omega arith
counted_more false n l h e = grind arith

byte : (c : ℕ) → character c ≡ true → c < 256
byte c e = grind (arith, nat_tests)

characters_are_bytes : (s : List ℕ) → prefix_len character s ≡ length s → Bytes s
characters_are_bytes [] e = tt
characters_are_bytes (c ∷ s) e =
    let p = one_more (character c) (prefix_len character s) (length s) e in
    (byte c p.0, characters_are_bytes s p.1)

-- zeros behind are not counted
leading_padded : (s : List ℕ) (k : ℕ) → prefix_len character s ≡ length s → prefix_len character (s ++ zeros k) ≡ length s
leading_padded [] zero e = refl
leading_padded [] (suc k) e = refl
leading_padded (c ∷ s) k e =
    let p = one_more (character c) (prefix_len character s) (length s) e in
    counted_more (character c) (prefix_len character (s ++ zeros k)) (length s) p.0 (leading_padded s k p.1)

-- those that come first are characters
leading_take : (s : List ℕ) (n : ℕ) → prefix_len character s ≡ n → prefix_len character (take n s) ≡ n
leading_take [] zero e = refl
leading_take [] (suc n) e = absurd (omega arith)
leading_take (c ∷ s) zero e = refl
leading_take (c ∷ s) (suc n) e =
    let p = one_more (character c) (prefix_len character s) n e in
    counted_more (character c) (prefix_len character (take n s)) n p.0 (leading_take s n p.1)

-- ---- a text that is held

held : (n l w : ℕ) → (not (l == 0) && (nat_le l w && n == l)) ≡ true → (l ≢ 0) × (l ≤ w) × (n ≡ l)
held n l w e = (λ h. grind (arith, nat_tests), grind (arith, nat_tests), grind (arith, nat_tests))

holding : (n l w : ℕ) → (l ≢ 0) → l ≤ w → n ≡ l → (not (l == 0) && (nat_le l w && n == l)) ≡ true
holding n l w a b e = grind (arith, nat_tests)

length_padded : (s : List ℕ) (w : ℕ) → length s ≤ w → length (s ++ zeros (w - length s)) ≡ w
length_padded s w h = simp (length-append, length-replicate) (omega arith)

-- ---- bytes that mean something

means_text : (n w : ℕ) (s t : List ℕ) → length s ≡ w → only_zeros (drop n s) ≡ true → take n s ≡ t → (n ≢ 0) → counted_text n w s ≡ Some (text t)
means_text n w s t a b e d = rw (eq-eqb (length s) w a, b, ne_eqb n 0 d, e)

means_absent : (n w : ℕ) (s : List ℕ) → length s ≡ w → only_zeros s ≡ true → n ≡ 0 → counted_text n w s ≡ Some absent
means_absent n w s a b e = rw (e, eq-eqb (length s) w a, b)

-- ---- the laws

long : (w : ℕ) (m : Meaning) (s : List ℕ) → text_pattern w m ≡ Some s → length s ≡ w
long w absent s e = ap length (sym (same_Some (zeros w) s e)) ∙ length-replicate w 0
long w (unsigned n) s e = absurd (none-some s e)
long w (signed z) s e = absurd (none-some s e)
long w (decimal z n) s e = absurd (none-some s e)
long w (text t) s e =
    let p = cond_some (holds w t) (t ++ zeros (w - length t)) s e in
    let h = held (prefix_len character t) (length t) w p.0 in
    ap length (sym p.1) ∙ length_padded t w h.1
long w (investor p d) s e = absurd (none-some s e)

bytes : (w : ℕ) (m : Meaning) (s : List ℕ) → text_pattern w m ≡ Some s → Bytes s
bytes w absent s e = subst Bytes (same_Some (zeros w) s e) (zeros_are_bytes w)
bytes w (unsigned n) s e = absurd (none-some s e)
bytes w (signed z) s e = absurd (none-some s e)
bytes w (decimal z n) s e = absurd (none-some s e)
bytes w (text t) s e =
    let p = cond_some (holds w t) (t ++ zeros (w - length t)) s e in
    let h = held (prefix_len character t) (length t) w p.0 in
    subst Bytes p.1 (All-append (λ b. b < 256) t (zeros (w - length t)) (characters_are_bytes t h.2) (zeros_are_bytes (w - length t)))
bytes w (investor p d) s e = absurd (none-some s e)

padded_means : (w : ℕ) (t : List ℕ) → holds w t ≡ true → text_means w (t ++ zeros (w - length t)) ≡ Some (text t)
padded_means w t e =
    let h = held (prefix_len character t) (length t) w e in
    let k = w - length t in
    let n : prefix_len character (t ++ zeros k) ≡ length t = leading_padded t k h.2 in
    means_text (prefix_len character (t ++ zeros k)) w (t ++ zeros k) t (length_padded t w h.1)
    (ap only_zeros (drop_at t (zeros k) _ (sym n)) ∙ zeros_are_zeros k)
    (take_at t (zeros k) _ (sym n))
    (λ z. h.0 (sym n ∙ z))

read_back : (w : ℕ) (m : Meaning) (s : List ℕ) → text_pattern w m ≡ Some s → text_means w s ≡ Some m
read_back w absent s e =
    subst (λ t. text_means w t ≡ Some absent) (same_Some (zeros w) s e)
    (means_absent (prefix_len character (zeros w)) w (zeros w) (length-replicate w 0) (zeros_are_zeros w) (leading_padded [] w refl))
read_back w (unsigned n) s e = absurd (none-some s e)
read_back w (signed z) s e = absurd (none-some s e)
read_back w (decimal z n) s e = absurd (none-some s e)
read_back w (text t) s e =
    let p = cond_some (holds w t) (t ++ zeros (w - length t)) s e in
    subst (λ x. text_means w x ≡ Some (text t)) p.1 (padded_means w t p.0)
read_back w (investor p d) s e = absurd (none-some s e)

-- ---- bytes whose first n are the characters and the rest zeros are the pattern of what they mean

absent_back : (w : ℕ) (s : List ℕ) → length s ≡ w → only_zeros s ≡ true → zeros w ≡ s
absent_back w s l z = ap zeros (sym l) ∙ sym (only_zeros_is s z)

taken_is_held : (n w : ℕ) (s : List ℕ) → prefix_len character s ≡ n → n ≤ w → length (take n s) ≡ n → (n ≢ 0) → holds w (take n s) ≡ true
taken_is_held n w s c h t some =
    holding (prefix_len character (take n s)) (length (take n s)) w (λ e. some (sym t ∙ e)) (subst (λ k. k ≤ w) (sym t) h) (leading_take s n c ∙ sym t)

taken_back : (n w : ℕ) (s : List ℕ) → length s ≡ w → length (take n s) ≡ n → only_zeros (drop n s) ≡ true → take n s ++ zeros (w - length (take n s)) ≡ s
taken_back n w s l t z =
    let k : w - length (take n s) ≡ length (drop n s) = simp length-drop (omega arith) in
    ap (λ x. take n s ++ zeros x) k ∙ ap (λ x. take n s ++ x) (sym (only_zeros_is (drop n s) z)) ∙ take-append-drop n s

pattern_back : (n w : ℕ) (s : List ℕ) → prefix_len character s ≡ n → length s ≡ w → only_zeros (drop n s) ≡ true → text_pattern w (text_of n s) ≡ Some s
pattern_back n w s c l z =
    ⊎_elim
    (λ a. rw a.0 (ap Some (absent_back w s l (subst (λ k. only_zeros (drop k s) ≡ true) a.1 z))))
    (λ a.
    let most : n ≤ length s = subst (λ k. k ≤ length s) c (prefix_len-le-length character s) in
    let t : length (take n s) ≡ n = length-take-le n s most in
    rw a.0 (rw (taken_is_held n w s c (subst (λ k. n ≤ k) l most) t a.1) (ap Some (taken_back n w s l t z))))
    (eqb_tells n 0)

written_back : (w : ℕ) (s : List ℕ) (m : Meaning) → Bytes s → text_means w s ≡ Some m → text_pattern w m ≡ Some s
written_back w s m b e =
    let n = prefix_len character s in
    let p = cond_some (length s == w && only_zeros (drop n s)) (text_of n s) m e in
    let q = and_parts (length s == w) (only_zeros (drop n s)) p.0 in
    subst (λ x. text_pattern w x ≡ Some s) p.1 (pattern_back n w s refl (eqb-true (length s) w q.0) q.1)

-- characters are bytes
sayable : (w : ℕ) (m : Meaning) (s : List ℕ) → text_pattern w m ≡ Some s → Sayable m
sayable w absent s e = tt
sayable w (unsigned n) s e = absurd (none-some s e)
sayable w (signed z) s e = absurd (none-some s e)
sayable w (decimal z n) s e = absurd (none-some s e)
sayable w (text t) s e =
    let p = cond_some (holds w t) (t ++ zeros (w - length t)) s e in
    let h = held (prefix_len character t) (length t) w p.0 in
    characters_are_bytes t h.2
sayable w (investor p d) s e = absurd (none-some s e)

pub text_lawful : (w : ℕ) → 1 ≤ w → w ≤ 20 → Lawful (text_kind w)
text_lawful w low high =
    record {
      least = low;
      most = high;
      long = long w;
      bytes = bytes w;
      read_back = read_back w;
      written_back = written_back w;
      blank_is = refl;
      absent_is = λ s e. sym (same_Some (zeros w) s e);
      sayable = sayable w;
    }
