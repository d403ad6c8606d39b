-- Bytes that pass, at the dictionary's version or below, are the bytes of what they read as.
use Rattle.std.proofs.Common.{◌≡◌, ℕ, zero, suc, ◌+◌, ◌-◌, ◌*◌, ◌<◌, ◌≤◌, Bool, false, eqb, leb, List, [], ◌∷◌, ◌++◌, length, take, drop, sym, refl, ap, ◌∙◌, subst, ap₂, append_assoc, suc-mul, zero-mul, arith, length-drop, take-add}
use native.Mathlib.Nat.{sub-zero}
use Rattle.std.proofs.lemmas.List.{take-append-drop, length-take-le, nil_from_length}
use Rattle.std.proofs.ByRecursion.{All-take, All-drop}
use Rattle.std.proofs.lemmas.Bool.{leb-true, eqb-true}
use Rattle.wire.specs.Bytes.{Bytes}
use Rattle.wire.specs.Numbers.{le_value, le_bytes}
use Rattle.wire.proofs.Values.{le_bytes_of_value}
use Rattle.schema.specs.Verdicts.{fine}
use Rattle.message.specs.Blocks.{BlockView, block_bytes, block_verdict, block_meanings}
use Rattle.message.specs.Frames.{GroupView, DataView, View, entries_bytes, group_bytes, groups_bytes, part_bytes, parts_bytes, contents_bytes, entry_length, entry_count, group_length, groups_length, content_length, entries_verdict, group_verdict, groups_verdict, parts_verdict, contents_verdict, entries_read, groups_read, parts_read, contents_read, Entries, Groups, Parts, Holds}
use Rattle.message.proofs.Verdicts.{both, told, holds}
use Rattle.message.proofs.Blocks.{Sized, made}

abbrev pub AllSized : List GroupView → Type 0
AllSized [] = Unit {0}
AllSized (g ∷ gs) = Sized g.block × AllSized gs

bytes_drop : (n : ℕ) (bs : List ℕ) → Bytes bs → Bytes (drop n bs)
bytes_drop n bs y = All-drop (λ b. b < 256) n bs y

bytes_take : (n : ℕ) (bs : List ℕ) → Bytes bs → Bytes (take n bs)
bytes_take n bs y = All-take (λ b. b < 256) n bs y

-- a number in front of bytes is the bytes that it was read from
pub number_front : (w : ℕ) (bs : List ℕ) → Bytes bs → w ≤ length bs → le_bytes w (le_value (take w bs)) ≡ take w bs
number_front w bs y l = ap (λ n. le_bytes n (le_value (take w bs))) (sym (length-take-le w bs l)) ∙ le_bytes_of_value (take w bs) (bytes_take w bs y)

-- ---- data

pub record PartsMade (ds : List DataView) (bs : List ℕ) : Type 0 where
  pub same : bs ≡ parts_bytes ds (parts_read ds bs)
  pub right : Parts ds (parts_read ds bs)

parts_made : (ds : List DataView) (p : ℕ) (bs : List ℕ) → Bytes bs → parts_verdict false ds p bs ≡ fine → PartsMade ds bs
parts_made [] p bs y e = record { same = nil_from_length bs (eqb-true _ _ (holds (eqb (length bs) 0) _ e)); right = tt }
parts_made (d ∷ ds) p bs y e =
    let w = d.prefix in
    let n = content_length w bs in
    let a = told (leb w (length bs)) _ _ e in
    let b = told (leb n d.longest) _ _ a.1 in
    let c = told (leb (w + n) (length bs)) _ _ b.1 in
    let here = leb-true w (length bs) a.0 in
    let small = leb-true n d.longest b.0 in
    let there = leb-true (w + n) (length bs) c.0 in
    let r = parts_made ds (p + (w + n)) (drop (w + n) bs) (bytes_drop (w + n) bs y) c.1 in
    let q : length (take n (drop w bs)) ≡ n = length-take-le n (drop w bs) (simp length-drop (omega arith)) in
    let number : le_bytes w (length (take n (drop w bs))) ≡ take w bs = ap (le_bytes w) q ∙ number_front w bs y here in
    let front : part_bytes d (take n (drop w bs)) ≡ take (w + n) bs = ap (λ x. x ++ take n (drop w bs)) number ∙ sym (take-add w n bs) in
    record {
      same = sym (take-append-drop (w + n) bs) ∙ ap₂ (λ x y. x ++ y) (sym front) r.same;
      right = (rw q small, bytes_take n (drop w bs) (bytes_drop w bs y), r.right);
    }

module _ (closed : Bool) where
  -- ---- entries

  pub record EntriesMade (b : BlockView) (n : ℕ) (bs : List ℕ) : Type 0 where
    pub within : n * b.size ≤ length bs
    pub count : length (entries_read b b.size n bs) ≡ n
    pub same : take (n * b.size) bs ≡ entries_bytes b (entries_read b b.size n bs)
    pub right : Entries closed b (entries_read b b.size n bs)

  entries_made : (b : BlockView) (t n p : ℕ) (bs : List ℕ) → Bytes bs → Sized b → entries_verdict closed b b.size t n p bs ≡ fine → EntriesMade b n bs
  entries_made b t zero p bs y s e = record { within = rw zero-mul (omega arith); count = refl; same = rw zero-mul; right = tt }
  entries_made b t (suc n) p bs y s e =
      let x = told (leb b.size (length bs)) _ _ e in
      let h = both (block_verdict closed p b bs) _ x.1 in
      let l = leb-true b.size (length bs) x.0 in
      let m = made closed p 0 b.slots b.size bs y s.0 (rw sub-zero l) h.0 in
      let r = entries_made b t n (p + b.size) (drop b.size bs) (bytes_drop b.size bs y) s h.1 in
      let w = rw length-drop at r.within in
      let f : take b.size bs ≡ block_bytes b (block_meanings b bs) = rw (sub-zero b.size) at m.same in
      let k : suc n * b.size ≡ b.size + n * b.size = rw suc-mul (omega arith) in
      record {
        within = rw suc-mul (omega arith);
        count = ap suc r.count;
        same = rw k (take-add b.size _ bs ∙ ap₂ (λ x y. x ++ y) f r.same);
        right = ((m.filled, m.complete), r.right);
      }

  -- ---- groups

  pub record GroupsMade (gs : List GroupView) (bs : List ℕ) : Type 0 where
    pub within : groups_length gs bs ≤ length bs
    pub same : take (groups_length gs bs) bs ≡ groups_bytes gs (groups_read gs bs)
    pub right : Groups closed gs (groups_read gs bs)

  -- the three bytes in front of a group's entries
  head_front : (bs : List ℕ) → Bytes bs → 3 ≤ length bs → le_bytes 2 (entry_length bs) ++ (entry_count bs ∷ []) ≡ take 3 bs
  head_front [] y l = absurd (omega arith)
  head_front (a ∷ []) y l = absurd (omega arith)
  head_front (a ∷ b ∷ []) y l = absurd (omega arith)
  head_front (a ∷ b ∷ n ∷ bs) y l = ap (λ x. x ++ (n ∷ [])) (number_front 2 (a ∷ b ∷ n ∷ bs) y (omega arith))

  groups_made : (gs : List GroupView) (p : ℕ) (bs : List ℕ) → Bytes bs → AllSized gs → groups_verdict closed false gs p bs ≡ fine → GroupsMade gs bs
  groups_made [] p bs y s e = record { within = omega arith; same = refl; right = tt }
  groups_made (g ∷ gs) p bs y s e =
      let size = g.block.size in
      let n = entry_count bs in
      let h = both (group_verdict closed false g p bs) _ e in
      let h1 = told (leb 3 (length bs)) _ _ h.0 in
      let h2 = told (eqb (entry_length bs) size) _ _ h1.1 in
      let h3 = told (leb n 254) _ _ h2.1 in
      let three = leb-true 3 (length bs) h1.0 in
      let u : entry_length bs ≡ size = eqb-true _ _ h2.0 in
      let b3 = drop 3 bs in
      let all : entries_verdict closed g.block size g.tag n (p + 3) b3 ≡ fine = subst (λ x. entries_verdict closed g.block x g.tag n (p + 3) b3 ≡ fine) u h3.1 in
      let r = entries_made g.block g.tag n (p + 3) b3 (bytes_drop 3 bs y) s.0 all in
      let whole : group_length bs ≡ 3 + n * size = ap (λ x. 3 + n * x) u in
      let bn = drop (group_length bs) bs in
      let q = groups_made gs (p + group_length bs) bn (bytes_drop (group_length bs) bs y) s.1 h.1 in
      let rest = groups_length gs bn in
      let es = entries_read g.block size n b3 in
      let es_are : entries_read g.block (entry_length bs) n b3 ≡ es = ap (λ x. entries_read g.block x n b3) u in
      let front : group_bytes g es ≡ take (group_length bs) bs =
      (λ i. le_bytes 2 (sym u i) ++ (r.count i ∷ sym r.same i))
      ∙ sym (append_assoc (le_bytes 2 (entry_length bs)) (n ∷ []) (take (n * size) b3))
      ∙ ap (λ x. x ++ take (n * size) b3) (head_front bs y three)
      ∙ sym (take-add 3 (n * size) bs)
      ∙ ap (λ x. take x bs) (sym whole) in
      let w = r.within in
      let w3 : length b3 ≡ length bs - 3 = length-drop 3 bs in
      let v = q.within in
      let vn : length bn ≡ length bs - group_length bs = length-drop (group_length bs) bs in
      record {
        within = omega (arith, w, w3, v, vn, whole);
        same = take-add (group_length bs) rest bs ∙ ap₂ (λ x y. x ++ y) (sym front) q.same ∙ ap (λ x. group_bytes g x ++ groups_bytes gs (groups_read gs bn)) (sym es_are);
        right = subst (λ x. (length x ≤ 254) × Entries closed g.block x × Groups closed gs (groups_read gs bn)) (sym es_are) (rw r.count (leb-true n 254 h3.0), r.right, q.right);
      }

  -- ---- contents

  pub record ContentsMade (v : View) (bs : List ℕ) : Type 0 where
    pub same : bs ≡ contents_bytes v (contents_read v v.root.size bs)
    pub right : Holds closed v (contents_read v v.root.size bs)

  pub contents_made : (v : View) (p : ℕ) (bs : List ℕ) → Bytes bs → Sized v.root → AllSized v.groups → contents_verdict closed false v v.root.size p bs ≡ fine → ContentsMade v bs
  contents_made v p bs y s ss e =
      let size = v.root.size in
      let b2 = drop size bs in
      let n = groups_length v.groups b2 in
      let h1 = told (eqb size size) _ _ e in
      let h2 = told (leb size (length bs)) _ _ h1.1 in
      let h3 = both (block_verdict closed p v.root bs) _ h2.1 in
      let h4 = both (groups_verdict closed false v.groups (p + size) b2) _ h3.1 in
      let l = leb-true size (length bs) h2.0 in
      let m = made closed p 0 v.root.slots size bs y s.0 (rw sub-zero l) h3.0 in
      let f : take size bs ≡ block_bytes v.root (block_meanings v.root bs) = rw (sub-zero size) at m.same in
      let g = groups_made v.groups (p + size) b2 (bytes_drop size bs y) ss h4.0 in
      let d = parts_made v.parts (p + size + n) (drop n b2) (bytes_drop n b2 (bytes_drop size bs y)) h4.1 in
      record {
        same = sym (take-append-drop size bs) ∙ ap₂ (λ x y. x ++ y) f (sym (take-append-drop n b2) ∙ ap₂ (λ x y. x ++ y) g.same d.same);
        right = record { root = (m.filled, m.complete); groups = g.right; parts = d.right };
      }
