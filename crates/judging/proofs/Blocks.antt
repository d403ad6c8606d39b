-- The fields of a block, one by one.
use Rattle.std.proofs.Common.{◌≡◌, ℕ, ◌+◌, ◌-◌, ◌≤◌, Bool, ◌&&◌, eqb, List, ◌∷◌, map, take, drop, Some, None, Ok, Err, Option, sym, refl, ap, ◌∙◌, ap₂, arith}
use Rattle.std.specs.Result.{result_unwrap_or}
use Rattle.wire.specs.declared.refusal.Refusal.{Refusal}
use Rattle.types.specs.Kinds.{Kind, Lawful, Known}
use Rattle.types.specs.Answers.{width_of}
use Rattle.schema.specs.Verdicts.{Verdict, ◌then◌}
use Rattle.schema.specs.Structure.{Field}
use Rattle.schema.specs.Geometry.{kind_of, width_or_0}
use Rattle.message.specs.Blocks.{Slot, padding_verdict, field_verdict, fields_verdict}
use Rattle.message.specs.Messages.{slot_of}
use Rattle.dictionary.proofs.Rounds.{then_assoc, passes_on, refused_at}
use Rattle.judging.specs.Steps.{one_verdict}

-- a width that is told is at most 20, and one that is not is 0
pub width_bound : (k : Option Kind) → ((x : Kind) → k ≡ Some x → Lawful x) → result_unwrap_or (width_of k) 0 ≤ 20
width_bound None lawful = omega arith
width_bound (Some k) lawful = (lawful k refl).most

-- ---- the verdict, field by field

module _ (known : Known) (closed : Bool) (base size : ℕ) where
  field_cons : (at : ℕ) (f : Field) (ss : List Slot) (bs : List ℕ) → fields_verdict closed base at (slot_of known f ∷ ss) size bs ≡ (one_verdict known closed base at f bs then fields_verdict closed base (f.offset + width_or_0 (kind_of known f)) ss size (drop (width_or_0 (kind_of known f)) (drop (f.offset - at) bs)))
  field_cons at f ss bs =
      sym (then_assoc (padding_verdict (base + at) (take (f.offset - at) bs))
      (field_verdict (kind_of known f) (closed && eqb f.presence 1) (base + f.offset) f.tag (take (width_or_0 (kind_of known f)) (drop (f.offset - at) bs)))
      (fields_verdict closed base (f.offset + width_or_0 (kind_of known f)) ss size (drop (width_or_0 (kind_of known f)) (drop (f.offset - at) bs))))

  pub fields_more : (at at' : ℕ) (fs fs' : List Field) (bs bs' : List ℕ) (f : Field) (v : Verdict) (x : Unit {0}) (all : Verdict) → fs ≡ f ∷ fs' → v ≡ one_verdict known closed base at f bs → v ≡ Ok x → bs' ≡ drop (width_or_0 (kind_of known f)) (drop (f.offset - at) bs) → at' ≡ f.offset + width_or_0 (kind_of known f) → fields_verdict closed base at (map (slot_of known) fs) size bs ≡ all → fields_verdict closed base at' (map (slot_of known) fs') size bs' ≡ all
  fields_more at at' fs fs' bs bs' f v x all here is ok ebs eat whole =
      let rest = map (slot_of known) fs' in
      let next = fields_verdict closed base (f.offset + width_or_0 (kind_of known f)) rest size (drop (width_or_0 (kind_of known f)) (drop (f.offset - at) bs)) in
      ap₂ (λ a t. fields_verdict closed base a rest size t) eat ebs
      ∙ sym (passes_on (one_verdict known closed base at f bs) next x (sym is ∙ ok))
      ∙ sym (field_cons at f rest bs)
      ∙ ap (λ gs. fields_verdict closed base at (map (slot_of known) gs) size bs) (sym here)
      ∙ whole

  pub fields_refused : (at : ℕ) (fs fs' : List Field) (bs : List ℕ) (f : Field) (v : Verdict) (e : Refusal) (all : Verdict) → fs ≡ f ∷ fs' → v ≡ one_verdict known closed base at f bs → v ≡ Err e → fields_verdict closed base at (map (slot_of known) fs) size bs ≡ all → Err e ≡ all
  fields_refused at fs fs' bs f v e all here is bad whole =
      let rest = map (slot_of known) fs' in
      let next = fields_verdict closed base (f.offset + width_or_0 (kind_of known f)) rest size (drop (width_or_0 (kind_of known f)) (drop (f.offset - at) bs)) in
      sym (refused_at (one_verdict known closed base at f bs) next e (sym is ∙ bad))
      ∙ sym (field_cons at f rest bs)
      ∙ ap (λ gs. fields_verdict closed base at (map (slot_of known) gs) size bs) (sym here)
      ∙ whole
