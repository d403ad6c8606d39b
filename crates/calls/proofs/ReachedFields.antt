-- From the blank fields of a block to meanings that have patterns, by setting one field after the other.
use Rattle.std.proofs.Common.{◌≡◌, ℕ, ◌+◌, ◌^◌, ◌<◌, ◌≤◌, true, false, eqb, ◌⊎◌, List, [], ◌∷◌, map, length, Some, None, Ok, Option, sym, refl, ap, ◌∙◌, subst, inl, inr, ⊎_elim, arith, length-append}
use Rattle.std.specs.List.{AllByRecursion}
use Rattle.std.proofs.lemmas.Bool.{eq-eqb, ne_eqb}
use Rattle.types.specs.Meanings.{Meaning, absent, unsigned, signed, decimal, text, investor, Sayable}
use Rattle.types.specs.Kinds.{Kind, Lawful}
use Rattle.schema.specs.Geometry.{width_or_0}
use Rattle.schema.specs.WellFormed.{Distinct}
use Rattle.message.specs.Blocks.{Slot, slot_end, written, is_absent, bytes_from, HasPattern, Filled}
use Rattle.message.proofs.Patterns.{was_there, sound_lawful}
use Rattle.calls.specs.Changes.{blank_meaning, field_in, with_meaning, pattern_of_value}
use Rattle.calls.proofs.Steps.{Steps, over, more, steps_on, steps_within}

-- ---- what a library owes of a field's type

abbrev pub LawfulKind : Option Kind → Type 0
LawfulKind None = ⊥
LawfulKind (Some k) = Lawful k

-- a field whose type is lawful and whose tag can be said
abbrev pub GoodSlot : Slot → Type 0
GoodSlot f = LawfulKind f.kind × (f.tag < 2 ^ 32)

-- the blank has a pattern
pub blank_has_pattern : (k : Option Kind) → LawfulKind k → HasPattern k (blank_meaning k)
blank_has_pattern None l = absurd l
blank_has_pattern (Some k) l = rw l.blank_is

-- absent, where it has a pattern, is what the blank means
pub absent_is_blank : (k : Option Kind) → LawfulKind k → HasPattern k absent → blank_meaning k ≡ absent
absent_is_blank None l h = absurd l
absent_is_blank (Some k) l h =
    let p : k.pattern absent ≡ Some (written (Some k) absent) = was_there _ (k.pattern absent) (written (Some k) absent) h in
    let e : written (Some k) absent ≡ k.blank = l.absent_is (written (Some k) absent) p in
    let a : k.means k.blank ≡ Some absent = l.read_back absent k.blank (p ∙ ap Some e) in
    let b : k.means k.blank ≡ Some k.blank_means = l.read_back k.blank_means k.blank l.blank_is in
    cc

-- all patterns of a type are equally long
pub pattern_long : (k : Option Kind) (m : Meaning) → LawfulKind k → HasPattern k m → length (written k m) ≡ width_or_0 k
pattern_long None m l h = absurd l
pattern_long (Some k) m l h = (sound_lawful k l).long m h

pub pattern_sayable : (k : Option Kind) (m : Meaning) → LawfulKind k → HasPattern k m → Sayable m
pattern_sayable None m l h = absurd l
pattern_sayable (Some k) m l h = l.sayable m (written (Some k) m) (was_there _ (k.pattern m) (written (Some k) m) h)

absent_or_value : (m : Meaning) → (absent ≡ m) ⊎ (is_absent m ≡ false)
absent_or_value absent = inl refl
absent_or_value (unsigned n) = inr refl
absent_or_value (signed z) = inr refl
absent_or_value (decimal z n) = inr refl
absent_or_value (text s) = inr refl
absent_or_value (investor a b) = inr refl

-- ---- one field set

-- one value set in a block that has these fields, from meanings to meanings; the block does not get shorter
pub record OneSet (fs : List Slot) (ms after : List Meaning) : Type 0 where
  pub slot : Slot
  pub value : Meaning
  pub tag_fits : slot.tag < 2 ^ 32
  pub there : is_absent value ≡ false
  pub sayable : Sayable value
  pub found : (base : ℕ) → field_in base fs slot.tag ≡ Ok (record { place = base + slot.offset; slot = slot })
  pub has : pattern_of_value slot.kind value ≡ Ok (written slot.kind value)
  pub leaves : with_meaning slot.tag value fs ms ≡ after
  pub grows : (at size : ℕ) → length (bytes_from at fs size ms) ≤ length (bytes_from at fs size after)
  -- its tag is one of the block's
  pub among : (t : ℕ) → AllByRecursion (λ u. u ≡ t → ⊥) (map (λ f. f.tag) fs) → slot.tag ≡ t → ⊥

-- the first field is set
set_first : (f : Slot) (fs : List Slot) (x m : Meaning) (ms : List Meaning) → GoodSlot f → HasPattern f.kind x → HasPattern f.kind m → is_absent m ≡ false → OneSet (f ∷ fs) (x ∷ ms) (m ∷ ms)
set_first f fs x m ms good old new value =
    let same : eqb f.tag f.tag ≡ true = eq-eqb f.tag f.tag refl in
    let a = pattern_long f.kind x good.0 old in
    let b = pattern_long f.kind m good.0 new in
    record {
      slot = f;
      value = m;
      tag_fits = good.1;
      there = value;
      sayable = pattern_sayable f.kind m good.0 new;
      found = λ base. rw same;
      has = rw value new;
      leaves = rw same;
      grows = λ at size. simp length-append (omega arith);
      among = λ t all e. all.0 e;
    }

-- a field behind the first is set
set_behind : (f : Slot) (fs : List Slot) (x : Meaning) (ms after : List Meaning) → AllByRecursion (λ u. u ≡ f.tag → ⊥) (map (λ g. g.tag) fs) → OneSet fs ms after → OneSet (f ∷ fs) (x ∷ ms) (x ∷ after)
set_behind f fs x ms after differs s =
    let other : eqb f.tag s.slot.tag ≡ false = ne_eqb f.tag s.slot.tag (λ e. s.among f.tag differs (sym e)) in
    record {
      slot = s.slot;
      value = s.value;
      tag_fits = s.tag_fits;
      there = s.there;
      sayable = s.sayable;
      found = λ base. rw other (s.found base);
      has = s.has;
      leaves = rw other (ap (λ xs. x ∷ xs) s.leaves);
      grows = λ at size. let l = s.grows (slot_end f) size in simp length-append (omega arith);
      among = λ t all e. s.among t all.1 e;
    }

-- ---- field after field

-- the first field from its blank: nothing to do for absent, else a set
set_or_left : (f : Slot) (fs : List Slot) (m : Meaning) (ms : List Meaning) → GoodSlot f → HasPattern f.kind m → Steps (OneSet (f ∷ fs)) (blank_meaning f.kind ∷ ms) (m ∷ ms)
set_or_left f fs m ms good h = ⊎_elim
    (λ e. subst (λ x. Steps (OneSet (f ∷ fs)) (blank_meaning f.kind ∷ ms) (x ∷ ms)) (absent_is_blank f.kind good.0 (subst (HasPattern f.kind) (sym e) h) ∙ e) over)
    (λ e. more (set_first f fs (blank_meaning f.kind) m ms good (blank_has_pattern f.kind good.0) h e) over)
    (absent_or_value m)

pub fields_reached : (fs : List Slot) (ms : List Meaning) → AllByRecursion GoodSlot fs → Distinct (map (λ f. f.tag) fs) → Filled fs ms → Steps (OneSet fs) (map (λ f. blank_meaning f.kind) fs) ms
fields_reached [] [] good d k = over
fields_reached [] (m ∷ ms) good d k = absurd k
fields_reached (f ∷ fs) [] good d k = absurd k
fields_reached (f ∷ fs) (m ∷ ms) good d k =
    steps_on
    (set_or_left f fs m (map (λ f. blank_meaning f.kind) fs) good.0 k.0)
    (steps_within (λ xs. m ∷ xs) (λ a b s. set_behind f fs m a b d.0.1 s) (fields_reached fs ms good.1 d.1 k.1))
