-- What the patches and moves of a call leave of a buffer whose parts are known, where there is room for them.
use Rattle.std.proofs.Common.{◌≡◌, ℕ, suc, ◌+◌, ◌-◌, ◌≤◌, List, [], ◌∷◌, ◌++◌, length, take, drop, sym, refl, ap, ◌∙◌, ap₂, append_assoc, arith, length-append}
use lib.Seq.{take-append-add}
use Rattle.std.proofs.lemmas.List.{length-take-le}
use Rattle.wire.specs.Numbers.{le_bytes}
use Rattle.moves.specs.Moves.{patched, shifted}
use Rattle.moves.proofs.Patches.{patched_length, patched_twice, shifted_is}
use Rattle.steps.specs.Steps.{patched_in, shifted_in}
use Rattle.steps.proofs.Fronts.{patched_in_room, shifted_in_room, patched_in_at}

-- ---- joined lists

-- the bytes of a group from its number of entries on, and what stands behind them
pub regroup : (before : List ℕ) (k : ℕ) (xs ys rest : List ℕ) → (before ++ (k ∷ (xs ++ ys))) ++ rest ≡ before ++ (k ∷ (xs ++ (ys ++ rest)))
regroup before k xs ys rest = append_assoc before (k ∷ (xs ++ ys)) rest ∙ ap (λ y. before ++ (k ∷ y)) (append_assoc xs ys rest)

pub regroup_more : (before : List ℕ) (k : ℕ) (xs ys zs rest : List ℕ) → (before ++ (k ∷ (xs ++ (ys ++ zs)))) ++ rest ≡ before ++ (k ∷ (xs ++ (ys ++ (zs ++ rest))))
regroup_more before k xs ys zs rest = regroup before k xs (ys ++ zs) rest ∙ ap (λ y. before ++ (k ∷ (xs ++ y))) (append_assoc ys zs rest)

-- how long they are
pub regrouped_long : (before : List ℕ) (k : ℕ) (xs ys : List ℕ) → length (before ++ (k ∷ (xs ++ ys))) ≡ length before + suc (length xs + length ys)
regrouped_long before k xs ys = rw (length-append before (k ∷ (xs ++ ys)), length-append xs ys) refl

-- ---- one patch, one move

-- a patch right behind a patch is one patch
pub put_twice : (p r : ℕ) (x y bs : List ℕ) → r ≡ p + length x → r + length y ≤ length bs → patched_in r y (patched_in p x bs) ≡ patched_in p (x ++ y) bs
put_twice p r x y bs e h =
    let both = length-append x y in
    let first = patched_in_room p x bs (omega arith) in
    let long = patched_length p x bs (omega arith) in
    let all = patched_in_room p (x ++ y) bs (omega arith) in
    ap (patched_in r y) first ∙ patched_in_room r y (patched p x bs) (omega arith) ∙ patched_twice p r x y bs e (omega arith) ∙ sym all

-- what stands behind a and old moves to w bytes behind a: those w bytes are some that stood there
pub move_in : (from end to w : ℕ) (a old b r bs : List ℕ) → bs ≡ a ++ (old ++ (b ++ r)) → from ≡ length a + length old → end ≡ from + length b → to ≡ length a + w → to + length b ≤ length bs →
    shifted_in from end to bs ≡ a ++ (take w (old ++ (b ++ r)) ++ (b ++ drop (to + length b) bs))
move_in from end to w a old b r bs s f e t h =
    let whole : length bs ≡ length a + (length old + (length b + length r)) = ap length s ∙ rw (length-append a (old ++ (b ++ r)), length-append old (b ++ r), length-append b r) refl in
    let far : to + (end - from) ≡ to + length b = omega arith in
    let moved : shifted from end to bs ≡ take (length a + w) bs ++ (b ++ drop (length a + w + length b) bs) = shifted_is from end to w a old b r bs s f (omega arith) t in
    let front : take (length a + w) bs ≡ a ++ take w (old ++ (b ++ r)) = ap (take (length a + w)) s ∙ take-append-add a (old ++ (b ++ r)) w in
    let rest : drop (length a + w + length b) bs ≡ drop (to + length b) bs = ap (λ k. drop (k + length b) bs) (sym t) in
    shifted_in_room from end to bs (omega arith) (omega arith) (omega arith)
    ∙ moved
    ∙ ap₂ (λ y z. y ++ (b ++ z)) front rest
    ∙ append_assoc a (take w (old ++ (b ++ r))) (b ++ drop (to + length b) bs)

-- there are as many of those bytes
pub gap_long : (w : ℕ) (a old b r bs : List ℕ) → bs ≡ a ++ (old ++ (b ++ r)) → length a + w ≤ length bs → length (take w (old ++ (b ++ r))) ≡ w
gap_long w a old b r bs s h =
    let whole : length bs ≡ length a + length (old ++ (b ++ r)) = ap length s ∙ length-append a (old ++ (b ++ r)) in
    length-take-le w (old ++ (b ++ r)) (omega arith)

-- ---- what the calls do to a frame in front of a buffer: its header begins with its length, and ends in `head`

module _ (head : List ℕ) where
  -- the frame's length anew
  pub length_put : (n m : ℕ) (bs : List ℕ) → patched_in 0 (le_bytes 2 m) ((le_bytes 2 n ++ head) ++ bs) ≡ (le_bytes 2 m ++ head) ++ bs
  length_put n m bs = patched_in_at 0 [] (le_bytes 2 n) (le_bytes 2 m) (head ++ bs) ((le_bytes 2 n ++ head) ++ bs) refl refl refl

  -- the frame's length anew, and the byte j in place of the byte k at p
  number_put : (n m p k j : ℕ) (before bs : List ℕ) → p ≡ 2 + length head + length before →
      patched_in 0 (le_bytes 2 m) (patched_in p (j ∷ []) ((le_bytes 2 n ++ head) ++ (before ++ (k ∷ bs)))) ≡ (le_bytes 2 m ++ head) ++ (before ++ (j ∷ bs))
  number_put n m p k j before bs e =
      let front = (le_bytes 2 n ++ head) ++ before in
      let long : p ≡ length front = rw (length-append (le_bytes 2 n ++ head) before) (omega arith) in
      ap (patched_in 0 (le_bytes 2 m))
      (ap (patched_in p (j ∷ [])) (sym (append_assoc (le_bytes 2 n ++ head) before (k ∷ bs)))
      ∙ patched_in_at p front (k ∷ []) (j ∷ []) bs (front ++ (k ∷ bs)) refl long refl
      ∙ append_assoc (le_bytes 2 n ++ head) before (j ∷ bs))
      ∙ length_put n m (before ++ (j ∷ bs))

  module _ (n k : ℕ) (before entries : List ℕ) where
    -- the frame up to the end of a group's entries
    abbrev up_to_entries : List ℕ
    up_to_entries = (le_bytes 2 n ++ head) ++ (before ++ (k ∷ entries))

    entries_regroup : (x : List ℕ) → up_to_entries ++ x ≡ (le_bytes 2 n ++ head) ++ (before ++ (k ∷ (entries ++ x)))
    entries_regroup x = append_assoc (le_bytes 2 n ++ head) (before ++ (k ∷ entries)) x ∙ ap (λ y. (le_bytes 2 n ++ head) ++ y) (append_assoc before (k ∷ entries) x)

    entries_reach : (p : ℕ) → p ≡ 2 + length head + length before → length up_to_entries ≡ p + 1 + length entries
    entries_reach p e = rw (length-append (le_bytes 2 n ++ head) (before ++ (k ∷ entries)), length-append before (k ∷ entries)) (omega arith)

  -- an entry is added behind the entries of a group whose number byte is at p
  pub added_in : (n m p end to k j : ℕ) (before entries blank behind rest bs : List ℕ) →
      bs ≡ (le_bytes 2 n ++ head) ++ (before ++ (k ∷ (entries ++ (behind ++ rest)))) →
      p ≡ 2 + length head + length before → end ≡ p + 1 + length entries → to ≡ end + length blank → n ≡ end + length behind → m ≡ n + length blank → m ≤ length bs →
      patched_in 0 (le_bytes 2 m) (patched_in p (j ∷ []) (patched_in end blank (shifted_in end n to bs)))
      ≡ (le_bytes 2 m ++ head) ++ (before ++ (j ∷ (entries ++ (blank ++ (behind ++ drop m bs)))))
  added_in n m p end to k j before entries blank behind rest bs is at_p at_end at_to n_is m_is room =
      let a = up_to_entries n k before entries in
      let w = length blank in
      let reach = entries_reach n k before entries p at_p in
      let split : bs ≡ a ++ ([] ++ (behind ++ rest)) = is ∙ sym (entries_regroup n k before entries (behind ++ rest)) in
      let gap = take w (behind ++ rest) in
      let none : length {A = ℕ} [] ≡ 0 = refl in
      let moved : shifted_in end n to bs ≡ a ++ (gap ++ (behind ++ drop (to + length behind) bs)) = move_in end n to w a [] behind rest bs split (omega arith) n_is (omega arith) (omega arith) in
      let long : length gap ≡ w = gap_long w a [] behind rest bs split (omega arith) in
      let far : to + length behind ≡ m = omega arith in
      ap (λ y. patched_in 0 (le_bytes 2 m) (patched_in p (j ∷ []) y))
      (ap (patched_in end blank) moved
      ∙ patched_in_at end a gap blank (behind ++ drop (to + length behind) bs) (a ++ (gap ++ (behind ++ drop (to + length behind) bs))) refl (omega arith) (sym long)
      ∙ ap (λ q. a ++ (blank ++ (behind ++ drop q bs))) far
      ∙ entries_regroup n k before entries (blank ++ (behind ++ drop m bs)))
      ∙ number_put n m p k j before (entries ++ (blank ++ (behind ++ drop m bs))) at_p

  -- the last entry of a group whose number byte is at p is taken away
  pub removed_in : (n m p end to k j : ℕ) (before kept last behind rest bs : List ℕ) →
      bs ≡ (le_bytes 2 n ++ head) ++ (before ++ (k ∷ (kept ++ (last ++ (behind ++ rest))))) →
      p ≡ 2 + length head + length before → to ≡ p + 1 + length kept → end ≡ to + length last → n ≡ end + length behind → m + length last ≡ n →
      patched_in 0 (le_bytes 2 m) (patched_in p (j ∷ []) (shifted_in end n to bs))
      ≡ (le_bytes 2 m ++ head) ++ (before ++ (j ∷ (kept ++ (behind ++ drop m bs))))
  removed_in n m p end to k j before kept last behind rest bs is at_p at_to at_end n_is m_is =
      let a = up_to_entries n k before kept in
      let reach = entries_reach n k before kept p at_p in
      let split : bs ≡ a ++ (last ++ (behind ++ rest)) = is ∙ sym (entries_regroup n k before kept (last ++ (behind ++ rest))) in
      let whole : length bs ≡ length a + (length last + (length behind + length rest)) = ap length split ∙ rw (length-append a (last ++ (behind ++ rest)), length-append last (behind ++ rest), length-append behind rest) refl in
      let moved : shifted_in end n to bs ≡ a ++ (behind ++ drop (to + length behind) bs) = move_in end n to 0 a last behind rest bs split (omega arith) n_is (omega arith) (omega arith) in
      let far : to + length behind ≡ m = omega arith in
      ap (λ y. patched_in 0 (le_bytes 2 m) (patched_in p (j ∷ []) y))
      (moved
      ∙ ap (λ q. a ++ (behind ++ drop q bs)) far
      ∙ entries_regroup n k before kept (behind ++ drop m bs))
      ∙ number_put n m p k j before (kept ++ (behind ++ drop m bs)) at_p

  -- x in place of the content of a data whose length byte is at p
  pub written_in : (n m p r end to k : ℕ) (before content x behind rest bs : List ℕ) →
      bs ≡ (le_bytes 2 n ++ head) ++ (before ++ (k ∷ (content ++ (behind ++ rest)))) →
      p ≡ 2 + length head + length before → r ≡ p + 1 → end ≡ r + length content → to ≡ r + length x → n ≡ end + length behind → m + length content ≡ n + length x → m ≤ length bs →
      patched_in 0 (le_bytes 2 m) (patched_in r x (patched_in p (length x ∷ []) (shifted_in end n to bs)))
      ≡ (le_bytes 2 m ++ head) ++ (before ++ (length x ∷ (x ++ (behind ++ drop m bs))))
  written_in n m p r end to k before content x behind rest bs is at_p at_r at_end at_to n_is m_is room =
      let a = (le_bytes 2 n ++ head) ++ before in
      let w = suc (length x) in
      let old = k ∷ content in
      let reach : length a ≡ p = rw (length-append (le_bytes 2 n ++ head) before) (omega arith) in
      let split : bs ≡ a ++ (old ++ (behind ++ rest)) = is ∙ sym (append_assoc (le_bytes 2 n ++ head) before (old ++ (behind ++ rest))) in
      let gap = take w (old ++ (behind ++ rest)) in
      let more = behind ++ drop (to + length behind) bs in
      let moved : shifted_in end n to bs ≡ a ++ (gap ++ more) = move_in end n to w a old behind rest bs split (omega arith) n_is (omega arith) (omega arith) in
      let long : length gap ≡ w = gap_long w a old behind rest bs split (omega arith) in
      let far : to + length behind ≡ m = omega arith in
      let there : r + length x ≤ length (a ++ (gap ++ more)) = rw (length-append a (gap ++ more), length-append gap more) (omega arith) in
      ap (patched_in 0 (le_bytes 2 m))
      (ap (λ y. patched_in r x (patched_in p (length x ∷ []) y)) moved
      ∙ put_twice p r (length x ∷ []) x (a ++ (gap ++ more)) at_r there
      ∙ patched_in_at p a gap (length x ∷ x) more (a ++ (gap ++ more)) refl (sym reach) (sym long)
      ∙ ap (λ q. a ++ (length x ∷ (x ++ (behind ++ drop q bs)))) far
      ∙ append_assoc (le_bytes 2 n ++ head) before (length x ∷ (x ++ (behind ++ drop m bs))))
      ∙ length_put n m (before ++ (length x ∷ (x ++ (behind ++ drop m bs))))
