-- What patches and moves leave of lists whose parts are known.
use Rattle.std.proofs.Common.{◌≡◌, ℕ, suc, ◌+◌, ◌-◌, ◌<◌, ◌≤◌, List, [], ◌∷◌, ◌++◌, length, take, drop, set, sym, refl, ap, ◌∙◌, ap₂, append_assoc, arith, length-append, length-drop, take-append-drop, drop-drop}
use lib.Seq.{take-append-add, drop-append-add, paste}
use Rattle.std.proofs.lemmas.List.{take_at, drop_at, length-take-le, take-append-le, take-take, set_split}
use borrow.Rule.Slice.PartMut.{put_mid}
use Rattle.moves.specs.Moves.{patched, shifted, spliced}

-- ---- patches

-- a patch of as many bytes as stand in front
pub patched_front : (x a bs : List ℕ) → length x ≡ length a → patched 0 x (a ++ bs) ≡ x ++ bs
patched_front x a bs e = ap (λ (t : List ℕ). x ++ t) (drop_at a bs (0 + length x) (omega arith))

-- a patch behind a front leaves the front
pub patched_behind : (r q : ℕ) (x a bs : List ℕ) → r ≡ length a + q → patched r x (a ++ bs) ≡ a ++ patched q x bs
patched_behind r q x a bs e =
    let far : r + length x ≡ length a + (q + length x) = omega arith in
    let front : take r (a ++ bs) ≡ a ++ take q bs = ap (λ (n : ℕ). take n (a ++ bs)) e ∙ take-append-add a bs q in
    let back : drop (r + length x) (a ++ bs) ≡ drop (q + length x) bs = ap (λ (n : ℕ). drop n (a ++ bs)) far ∙ drop-append-add a bs (q + length x) in
    ap₂ (λ (s t : List ℕ). s ++ (x ++ t)) front back ∙ append_assoc a (take q bs) (x ++ drop (q + length x) bs)

pub patched_length : (p : ℕ) (x bs : List ℕ) → p + length x ≤ length bs → length (patched p x bs) ≡ length bs
patched_length p x bs h =
    let front : length (take p bs) ≡ p = length-take-le p bs (omega arith) in
    let back : length (drop (p + length x) bs) ≡ length bs - (p + length x) = length-drop (p + length x) bs in
    let whole : length (patched p x bs) ≡ length (take p bs) + (length x + length (drop (p + length x) bs)) = length-append (take p bs) (x ++ drop (p + length x) bs) ∙ ap (λ (n : ℕ). length (take p bs) + n) (length-append x (drop (p + length x) bs)) in
    omega (arith, front, back, whole)

-- a patch right behind a patch
pub patched_twice : (p r : ℕ) (x y bs : List ℕ) → r ≡ p + length x → p + length x + length y ≤ length bs → patched r y (patched p x bs) ≡ patched p (x ++ y) bs
patched_twice p r x y bs e h =
    let rest : List ℕ = drop (p + length x) bs in
    let first : List ℕ = take p bs in
    let long : length (first ++ x) ≡ r = length-append first x ∙ ap (λ (n : ℕ). n + length x) (length-take-le p bs (omega arith)) ∙ sym e in
    let split : patched p x bs ≡ (first ++ x) ++ rest = sym (append_assoc first x rest) in
    let front : take r (patched p x bs) ≡ first ++ x = ap (take r) split ∙ take_at (first ++ x) rest r long in
    let behind : drop r (patched p x bs) ≡ rest = ap (drop r) split ∙ drop_at (first ++ x) rest r long in
    let both : length (x ++ y) ≡ length x + length y = length-append x y in
    let far : p + length x + length y ≡ p + length (x ++ y) = omega (arith, both) in
    let back : drop (r + length y) (patched p x bs) ≡ drop (p + length (x ++ y)) bs =
    sym (drop-drop (length y) r (patched p x bs)) ∙ ap (drop (length y)) behind ∙ drop-drop (length y) (p + length x) bs ∙ ap (λ (n : ℕ). drop n bs) far in
    ap₂ (λ (s t : List ℕ). s ++ (y ++ t)) front back
    ∙ append_assoc first x (y ++ drop (p + length (x ++ y)) bs)
    ∙ ap (λ (t : List ℕ). first ++ t) (sym (append_assoc x y (drop (p + length (x ++ y)) bs)))

-- the same where each patch has a name of its own
pub patched_on : (p r : ℕ) (x y bs once both : List ℕ) → once ≡ patched p x bs → both ≡ patched r y once → r ≡ p + length x → p + length x + length y ≤ length bs → both ≡ patched p (x ++ y) bs
patched_on p r x y bs once both e f q h = f ∙ ap (patched r y) e ∙ patched_twice p r x y bs q h

-- no bytes change nothing
pub patched_none : (p : ℕ) (bs : List ℕ) → patched p [] bs ≡ bs
patched_none p bs =
    let none : p + length {A = ℕ} [] ≡ p = omega arith in
    ap (λ (n : ℕ). take p bs ++ drop n bs) none ∙ take-append-drop p bs

-- ---- moves

-- what stands behind a and old moves to w bytes behind a
pub shifted_is : (from end to w : ℕ) (a old b r bs : List ℕ) → bs ≡ a ++ (old ++ (b ++ r)) → from ≡ length a + length old → end ≡ length a + length old + length b → to ≡ length a + w → shifted from end to bs ≡ take (length a + w) bs ++ (b ++ drop (length a + w + length b) bs)
shifted_is from end to w a old b r bs s f e t =
    let long : length (a ++ old) ≡ from = length-append a old ∙ sym f in
    let behind : drop from bs ≡ b ++ r = ap (drop from) (s ∙ sym (append_assoc a old (b ++ r))) ∙ drop_at (a ++ old) (b ++ r) from long in
    let count : length b ≡ end - from = omega arith in
    let moved : take (end - from) (drop from bs) ≡ b = ap (take (end - from)) behind ∙ take_at b r (end - from) count in
    let far : to + (end - from) ≡ length a + w + length b = omega arith in
    ap₂ (λ (n : ℕ) (z : List ℕ). take n bs ++ (z ++ drop (to + (end - from)) bs)) t moved
    ∙ ap (λ (n : ℕ). take (length a + w) bs ++ (b ++ drop n bs)) far

-- x in place of old, with what follows it moved up or down
pub spliced_is : (p k end : ℕ) (a old x b r bs : List ℕ) → bs ≡ a ++ (old ++ (b ++ r)) → p ≡ length a → k ≡ length old → end ≡ length a + length old + length b → length a + length x + length b ≤ length bs → spliced p k x end bs ≡ a ++ (x ++ (b ++ drop (length a + length x + length b) bs))
spliced_is p k end a old x b r bs s q o e h =
    let n = length a + length x in
    let rest : List ℕ = b ++ drop (n + length b) bs in
    let moved : shifted (p + k) end (p + length x) bs ≡ take n bs ++ rest = shifted_is (p + k) end (p + length x) (length x) a old b r bs s (omega arith) e (omega arith) in
    let long : length (take n bs) ≡ n = length-take-le n bs (omega arith) in
    let front : take p (take n bs ++ rest) ≡ a =
    take-append-le p (take n bs) rest (omega arith) ∙ take-take p n bs (omega arith) ∙ ap (take p) s ∙ take_at a (old ++ (b ++ r)) p (sym q) in
    let back : drop (p + length x) (take n bs ++ rest) ≡ rest = drop_at (take n bs) rest (p + length x) (omega arith) in
    ap (patched p x) moved ∙ ap₂ (λ (y z : List ℕ). y ++ (x ++ z)) front back

-- ---- what the code's writes leave

-- what a write leaves: the patched list, as long as it was
abbrev pub Leaves : List ℕ → ℕ → List ℕ → List ℕ → Type 0
Leaves left p x bs = (left ≡ patched p x bs) × (length left ≡ length bs)

leaves : (left : List ℕ) (p : ℕ) (x bs : List ℕ) → p + length x ≤ length bs → left ≡ patched p x bs → Leaves left p x bs
leaves left p x bs h e = (e, ap length e ∙ patched_length p x bs h)

-- a part of a list, written whole
pub part_put : (p k : ℕ) (x out bs : List ℕ) → out ≡ x → length x ≡ k → p + k ≤ length bs → Leaves (put_mid p k bs out) p x bs
part_put p k x out bs o e h =
    leaves (put_mid p k bs out) p x bs (omega arith)
    (ap (put_mid p k bs) o ∙ ap (λ (t : List ℕ). take p bs ++ (x ++ t)) (drop-drop k p bs ∙ ap (λ (n : ℕ). drop (p + n) bs) (sym e)))

-- one element set
pub set_put : (p b : ℕ) (bs : List ℕ) → p < length bs → Leaves (set bs p b) p (b ∷ []) bs
set_put p b bs h =
    let on : suc p ≡ p + 1 = omega arith in
    let one : length (b ∷ []) ≡ 1 = refl in
    leaves (set bs p b) p (b ∷ []) bs (omega arith) (set_split bs p b h ∙ ap (λ (n : ℕ). take p bs ++ b ∷ drop n bs) on)

-- a part of a list pasted elsewhere
pub paste_shifts : (from end to : ℕ) (bs : List ℕ) → paste bs to (drop from bs) (end - from) ≡ shifted from end to bs
paste_shifts from end to bs = append_assoc (take to bs) (take (end - from) (drop from bs)) (drop (to + (end - from)) bs)
