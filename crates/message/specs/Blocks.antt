-- A block of fields: its bytes, what bytes read as, and the first rule that bytes break. Assumes nothing.
use Rattle.std.specs.Prelude.{◌≡◌, ℕ, suc, ◌+◌, ◌-◌, Bool, true, false, not, ◌&&◌, List, [], ◌∷◌, ◌++◌, take, drop, replicate, Ok, Err, Option, Result, ◌==◌}
use Rattle.wire.specs.declared.refusal.Reason.TheVariants as reason
use Rattle.wire.specs.declared.refusal.Refusal.{Refusal}
use Rattle.wire.specs.Refusals.{located_as, bind}
use Rattle.types.specs.Meanings.{Meaning, absent, unsigned, signed, decimal, text, investor}
use Rattle.types.specs.Kinds.{Kind}
use Rattle.types.specs.Answers.{read_of, pattern_of}
use Rattle.schema.specs.Verdicts.{Verdict, fine, rule, ◌then◌}
use Rattle.schema.specs.Geometry.{width_or_0}

-- a field of a block with the kind of its type, if the library knows one
pub record Slot : Type 0 where
  pub tag : ℕ
  pub offset : ℕ
  pub kind : Option Kind
  pub required : Bool

-- a block of such fields: its length in bytes, and its fields in rising places
pub record BlockView : Type 0 where
  pub size : ℕ
  pub slots : List Slot

-- where a field ends in its block
abbrev pub slot_end : Slot → ℕ
slot_end f = f.offset + width_or_0 f.kind

-- what an answer gives, or else d
abbrev pub given_or : {X : Type 0} → Result X Refusal → X → X
given_or (Ok x) d = x
given_or (Err e) d = d

-- the pattern that means m, or nothing where none does
abbrev pub written : Option Kind → Meaning → List ℕ
written k m = given_or (pattern_of k m) []

-- what bytes mean, absent where they are no pattern
abbrev pub read_as : Option Kind → List ℕ → Meaning
read_as k bs = given_or (read_of k bs) absent

-- ---- bytes

-- padding
abbrev pub zeros : ℕ → List ℕ
zeros n = replicate n 0

-- the bytes of a block from `at` on: each field's pattern, and zeros between and behind them
abbrev pub bytes_from : ℕ → List Slot → ℕ → List Meaning → List ℕ
bytes_from at [] size ms = zeros (size - at)
bytes_from at (f ∷ fs) size [] = zeros (size - at)
bytes_from at (f ∷ fs) size (m ∷ ms) = zeros (f.offset - at) ++ (written f.kind m ++ bytes_from (slot_end f) fs size ms)

-- the bytes of a whole block
abbrev pub block_bytes : BlockView → List Meaning → List ℕ
block_bytes b ms = bytes_from 0 b.slots b.size ms

-- ---- rules

-- whether a meaning is that there is no value
abbrev pub is_absent : Meaning → Bool
is_absent absent = true
is_absent (unsigned n) = false
is_absent (signed z) = false
is_absent (decimal mantissa decimals) = false
is_absent (text s) = false
is_absent (investor prefix document) = false

-- a required field is not absent
abbrev pub present : Bool → Meaning → Bool
present required m = not (required && is_absent m)

-- padding is zero, byte by byte from place p on
abbrev pub padding_verdict : ℕ → List ℕ → Verdict
padding_verdict p [] = fine
padding_verdict p (b ∷ bs) = rule (b == 0) reason.Padding p 0 then padding_verdict (suc p) bs

-- the bytes of a field at a place are a pattern, and it is not absent if it is required
abbrev pub field_verdict : Option Kind → Bool → ℕ → ℕ → List ℕ → Verdict
field_verdict k required place tag bs = bind (located_as (read_of k bs) place tag) (λ m. rule (present required m) reason.RequiredAbsent place tag)

-- the first rule that bytes break which stand from `at` on in a block that begins at place `base`
-- `closed` asks for the required fields
abbrev pub fields_verdict : Bool → ℕ → ℕ → List Slot → ℕ → List ℕ → Verdict
fields_verdict closed base at [] size bs = padding_verdict (base + at) (take (size - at) bs)
fields_verdict closed base at (f ∷ fs) size bs =
    padding_verdict (base + at) (take (f.offset - at) bs)
    then field_verdict f.kind (closed && f.required) (base + f.offset) f.tag (take (width_or_0 f.kind) (drop (f.offset - at) bs))
    then fields_verdict closed base (slot_end f) fs size (drop (width_or_0 f.kind) (drop (f.offset - at) bs))

-- the verdict on bytes that begin with a block, at a place
abbrev pub block_verdict : Bool → ℕ → BlockView → List ℕ → Verdict
block_verdict closed place b bs = fields_verdict closed place 0 b.slots b.size bs

-- ---- what bytes read as

-- what bytes read as that stand from `at` on in a block, field by field, whatever they are
abbrev pub meanings_from : ℕ → List Slot → List ℕ → List Meaning
meanings_from at [] bs = []
meanings_from at (f ∷ fs) bs =
    read_as f.kind (take (width_or_0 f.kind) (drop (f.offset - at) bs))
    ∷ meanings_from (slot_end f) fs (drop (width_or_0 f.kind) (drop (f.offset - at) bs))

-- what bytes that begin with a block read as
abbrev pub block_meanings : BlockView → List ℕ → List Meaning
block_meanings b bs = meanings_from 0 b.slots bs

-- ---- what a block may hold

-- some pattern means m
abbrev pub HasPattern : Option Kind → Meaning → Type 0
HasPattern k m = pattern_of k m ≡ Ok (written k m)

-- for each field a meaning that has a pattern
abbrev pub Filled : List Slot → List Meaning → Type 0
Filled [] [] = Unit {0}
Filled [] (m ∷ ms) = ⊥
Filled (f ∷ fs) [] = ⊥
Filled (f ∷ fs) (m ∷ ms) = HasPattern f.kind m × Filled fs ms

-- no required field is absent
abbrev pub Complete : List Slot → List Meaning → Type 0
Complete [] ms = Unit {0}
Complete (f ∷ fs) [] = Unit {0}
Complete (f ∷ fs) (m ∷ ms) = (present f.required m ≡ true) × Complete fs ms
