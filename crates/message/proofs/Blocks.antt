-- Blocks: the bytes of meanings pass and read as these meanings; bytes that pass are the bytes of what they read as.
use Rattle.std.proofs.Common.{◌≡◌, ℕ, zero, suc, ◌+◌, ◌-◌, ◌<◌, ◌≤◌, Bool, true, false, ◌&&◌, T, eqb, List, [], ◌∷◌, ◌++◌, length, take, drop, Ok, Err, Option, Result, sym, refl, ap, ◌∙◌, ap₂, append_assoc, arith, length-append, length-drop, take-add}
use native.Mathlib.Nat.{sub-zero}
use lib.ListN.{length-replicate}
use Rattle.std.proofs.lemmas.List.{take_at, drop_at, length-take-le}
use Rattle.std.proofs.ByRecursion.{All-append, All-take, All-drop}
use Rattle.std.proofs.lemmas.Bool.{eqb-true}
use Rattle.wire.specs.declared.refusal.Reason.TheVariants as reason
use Rattle.wire.specs.declared.refusal.Refusal.{Refusal}
use Rattle.wire.specs.Refusals.{located_as, bind}
use Rattle.wire.specs.Bytes.{Bytes}
use Rattle.types.specs.Meanings.{Meaning, absent}
use Rattle.types.specs.Kinds.{Kind}
use Rattle.types.specs.Answers.{read_of, pattern_of}
use Rattle.schema.specs.Verdicts.{fine, rule}
use Rattle.schema.specs.Geometry.{width_or_0}
use Rattle.message.specs.Blocks.{Slot, BlockView, slot_end, given_or, written, read_as, zeros, bytes_from, block_bytes, present, padding_verdict, field_verdict, fields_verdict, meanings_from, Filled, Complete}
use Rattle.message.proofs.Verdicts.{both, joins, told, holds, kept}
use Rattle.message.proofs.Patterns.{SoundKind}

-- each field begins where the one before ends, or behind it; the last ends within the block; each has a sound kind
abbrev pub Fits : ℕ → List Slot → ℕ → Type 0
Fits at [] size = at ≤ size
Fits at (f ∷ fs) size = (at ≤ f.offset) × SoundKind f.kind × Fits (slot_end f) fs size

pub fits_within : (at : ℕ) (fs : List Slot) (size : ℕ) → Fits at fs size → at ≤ size
fits_within at [] size h = h
fits_within at (f ∷ fs) size h = let r = fits_within (slot_end f) fs size h.2 in let l = h.0 in omega arith

-- ---- padding

pub zeros_pass : (p n : ℕ) → padding_verdict p (zeros n) ≡ fine
zeros_pass p zero = refl
zeros_pass p (suc n) = zeros_pass (suc p) n

pub zeros_from : (p : ℕ) (bs : List ℕ) → padding_verdict p bs ≡ fine → bs ≡ zeros (length bs)
zeros_from p [] e = refl
zeros_from p (b ∷ bs) e =
    let h = told (eqb b 0) _ _ e in
    ap₂ (λ x xs. x ∷ xs) (eqb-true b 0 h.0) (zeros_from (suc p) bs h.1)

pub zeros_length : (n : ℕ) → length (zeros n) ≡ n
zeros_length n = length-replicate n 0

pub zeros_bytes : (n : ℕ) → Bytes (zeros n)
zeros_bytes zero = tt
zeros_bytes (suc n) = (omega arith, zeros_bytes n)

-- ---- one field

field_passes : (k : Option Kind) (required : Bool) (place tag : ℕ) (bs : List ℕ) (m : Meaning) → read_of k bs ≡ Ok m → present required m ≡ true → field_verdict k required place tag bs ≡ fine
field_passes k required place tag bs m e h = rw e (kept (present required m) _ h)

pub record ToldField (k : Option Kind) (required : Bool) (bs : List ℕ) : Type 0 where
  pub reads : read_of k bs ≡ Ok (read_as k bs)
  pub there : present required (read_as k bs) ≡ true

read_told : (o : Result Meaning Refusal) (required : Bool) (place tag : ℕ) → bind (located_as o place tag) (λ m. rule (present required m) reason.RequiredAbsent place tag) ≡ fine → (o ≡ Ok (given_or o absent)) × (present required (given_or o absent) ≡ true)
read_told (Ok m) required place tag e = (refl, holds (present required m) _ e)
read_told (Err r) required place tag e = let z : ◌≡◌ {A = ℕ} 0 1 = cc in absurd (omega arith)

pub field_told : (k : Option Kind) (required : Bool) (place tag : ℕ) (bs : List ℕ) → field_verdict k required place tag bs ≡ fine → ToldField k required bs
field_told k required place tag bs e = let h = read_told (read_of k bs) required place tag e in record { reads = h.0; there = h.1 }

present_if : (closed required : Bool) (m : Meaning) → (T closed → present required m ≡ true) → present (closed && required) m ≡ true
present_if true required m h = h tt
present_if false required m h = refl

if_present : (closed required : Bool) (m : Meaning) → present (closed && required) m ≡ true → T closed → present required m ≡ true
if_present true required m h t = h
if_present false required m h t = absurd t

-- ---- a front of bytes, with more behind

pub cut_take : (n : ℕ) (xs ys zs : List ℕ) → length xs ≡ n → take n ((xs ++ ys) ++ zs) ≡ xs
cut_take n xs ys zs e = rw append_assoc (take_at xs (ys ++ zs) n e)

pub cut_drop : (n : ℕ) (xs ys zs : List ℕ) → length xs ≡ n → drop n ((xs ++ ys) ++ zs) ≡ ys ++ zs
cut_drop n xs ys zs e = rw append_assoc (drop_at xs (ys ++ zs) n e)

-- ---- from meanings to bytes

pub bytes_length : (at : ℕ) (fs : List Slot) (size : ℕ) (ms : List Meaning) → Fits at fs size → Filled fs ms → length (bytes_from at fs size ms) ≡ size - at
bytes_length at [] size ms h k = length-replicate _ _
bytes_length at (f ∷ fs) size [] h k = absurd k
bytes_length at (f ∷ fs) size (m ∷ ms) h k =
    let r = bytes_length (slot_end f) fs size ms h.2 k.1 in
    let e = fits_within (slot_end f) fs size h.2 in
    let w = h.1.long m k.0 in
    let l = h.0 in
    simp (length-append, length-replicate) (omega arith)

pub bytes_in_bytes : (at : ℕ) (fs : List Slot) (size : ℕ) (ms : List Meaning) → Fits at fs size → Filled fs ms → Bytes (bytes_from at fs size ms)
bytes_in_bytes at [] size ms h k = zeros_bytes (size - at)
bytes_in_bytes at (f ∷ fs) size [] h k = zeros_bytes (size - at)
bytes_in_bytes at (f ∷ fs) size (m ∷ ms) h k =
    All-append (λ b. b < 256) (zeros (f.offset - at)) _ (zeros_bytes (f.offset - at))
    (All-append (λ b. b < 256) (written f.kind m) _ (h.1.in_bytes m k.0) (bytes_in_bytes (slot_end f) fs size ms h.2 k.1))

-- the bytes of meanings pass, whatever follows
pub passes : (closed : Bool) (base at : ℕ) (fs : List Slot) (size : ℕ) (ms : List Meaning) (more : List ℕ) → Fits at fs size → Filled fs ms → (T closed → Complete fs ms) → fields_verdict closed base at fs size (bytes_from at fs size ms ++ more) ≡ fine
passes closed base at [] size ms more h k c = rw (take_at (zeros (size - at)) more (size - at) (length-replicate _ _)) (zeros_pass (base + at) (size - at))
passes closed base at (f ∷ fs) size [] more h k c = absurd k
passes closed base at (f ∷ fs) size (m ∷ ms) more h k c =
    let g = zeros_length (f.offset - at) in
    let w = h.1.long m k.0 in
    simp (cut_take, cut_drop)
    (joins _ _ (zeros_pass (base + at) (f.offset - at))
    (joins _ _ (field_passes f.kind (closed && f.required) (base + f.offset) f.tag (written f.kind m) m (h.1.read m k.0) (present_if closed f.required m (λ t. (c t).0)))
    (passes closed base (slot_end f) fs size ms more h.2 k.1 (λ t. (c t).1))))

-- and read as these meanings
pub meanings_of_bytes : (at : ℕ) (fs : List Slot) (size : ℕ) (ms : List Meaning) (more : List ℕ) → Fits at fs size → Filled fs ms → meanings_from at fs (bytes_from at fs size ms ++ more) ≡ ms
meanings_of_bytes at [] size [] more h k = refl
meanings_of_bytes at [] size (m ∷ ms) more h k = absurd k
meanings_of_bytes at (f ∷ fs) size [] more h k = absurd k
meanings_of_bytes at (f ∷ fs) size (m ∷ ms) more h k =
    let g = zeros_length (f.offset - at) in
    let w = h.1.long m k.0 in
    let r = meanings_of_bytes (slot_end f) fs size ms more h.2 k.1 in
    simp (cut_take, cut_drop) (ap₂ (λ x xs. x ∷ xs) (ap (λ o. given_or o absent) (h.1.read m k.0)) r)

-- ---- from bytes to meanings

-- bytes that pass are the bytes of what they read as; each of these meanings has a pattern and, if closed, no required one is absent
pub record Made (closed : Bool) (at : ℕ) (fs : List Slot) (size : ℕ) (bs : List ℕ) : Type 0 where
  pub same : take (size - at) bs ≡ bytes_from at fs size (meanings_from at fs bs)
  pub filled : Filled fs (meanings_from at fs bs)
  pub complete : T closed → Complete fs (meanings_from at fs bs)

pub made : (closed : Bool) (base at : ℕ) (fs : List Slot) (size : ℕ) (bs : List ℕ) → Bytes bs → Fits at fs size → size - at ≤ length bs → fields_verdict closed base at fs size bs ≡ fine → Made closed at fs size bs
made closed base at [] size bs y h l e =
    record { same = zeros_from _ _ e ∙ ap zeros (length-take-le (size - at) bs l); filled = tt; complete = λ _. tt }
made closed base at (f ∷ fs) size bs y h l e =
    let gap = f.offset - at in
    let w = width_or_0 f.kind in
    let b1 = drop gap bs in
    let b2 = drop w b1 in
    let y1 : Bytes b1 = All-drop (λ b. b < 256) gap bs y in
    let a = both (padding_verdict (base + at) (take gap bs)) _ e in
    let b = both (field_verdict f.kind (closed && f.required) (base + f.offset) f.tag (take w b1)) _ a.1 in
    let j = field_told f.kind (closed && f.required) (base + f.offset) f.tag (take w b1) b.0 in
    let le = fits_within (slot_end f) fs size h.2 in
    let lo = h.0 in
    let r = made closed base (slot_end f) fs size b2 (All-drop (λ x. x < 256) w b1 y1) h.2 (simp length-drop (omega arith)) b.1 in
    let m = read_as f.kind (take w b1) in
    let o : pattern_of f.kind m ≡ Ok (take w b1) = h.1.back m (take w b1) (All-take (λ x. x < 256) w b1 y1) j.reads in
    let p : written f.kind m ≡ take w b1 = ap (λ x. given_or x []) o in
    let n : size - at ≡ gap + (w + (size - slot_end f)) = omega arith in
    let z : take gap bs ≡ zeros gap = zeros_from _ _ a.0 ∙ ap zeros (length-take-le gap bs (omega arith)) in
    record {
      same = rw n (take-add gap _ bs ∙ ap₂ (λ x y. x ++ y) z (take-add w _ b1 ∙ ap₂ (λ x y. x ++ y) (sym p) r.same));
      filled = (o ∙ ap Ok (sym p), r.filled);
      complete = λ t. (if_present closed f.required m j.there t, r.complete t);
    }

-- ---- a whole block

-- a block whose fields fit, and at most 16,372 bytes long
abbrev pub Sized : BlockView → Type 0
Sized b = Fits 0 b.slots b.size × (b.size ≤ 16372)

pub block_length : (b : BlockView) (ms : List Meaning) → Sized b → Filled b.slots ms → length (block_bytes b ms) ≡ b.size
block_length b ms s f = bytes_length 0 b.slots b.size ms s.0 f ∙ sub-zero b.size
