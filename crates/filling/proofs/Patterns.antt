-- Patterns that are put at a field.
use Rattle.std.proofs.Common.{◌≡◌, ℕ, List, take, Some, None, Option, Ok, Err, Result, IfErr, refl, sym, ap, ◌∙◌, arith}
use Rattle.wire.specs.declared.refusal.Refusal.{Refusal}
use Rattle.wire.specs.declared.refusal.Reason.{Reason}
use Rattle.wire.specs.declared.refusal.Reason.TheVariants as reason
use Rattle.wire.specs.Refusals.{plain, located_as, bind}
use Rattle.types.specs.declared.pattern.Pattern.{Pattern}
use Rattle.types.specs.Answers.{patterned, pattern_of, or_refused}
use Rattle.types.specs.Kinds.{Kind, Known}
use Rattle.types.specs.Meanings.{Meaning}
use Rattle.schema.specs.Structure.{Template}
use Rattle.places.specs.Places.{PlacedField, field_place}
use Rattle.steps.specs.Steps.{patched_in, patch_field}

-- a refusal rises the same, whether the pattern is seen by its bytes
located-patterned : (r : Result Pattern Refusal) (place tag : ℕ) → patterned (located_as r place tag) ≡ located_as (patterned r) place tag
located-patterned (Ok p) place tag = refl
located-patterned (Err e) place tag = refl

module _ (known : Known) (t : Template) (u n : ℕ) (buffer : List ℕ) (answer : PlacedField → Result (List ℕ) Refusal) (group entry tag : ℕ) (f : PlacedField) (r : Result Pattern Refusal) where
  -- what is answered for the field rises
  pub patched_by : (q : Result Pattern Refusal) → field_place u (take n buffer) t group entry tag ≡ Ok f → patterned r ≡ answer f → q ≡ located_as r f.place tag → patch_field known t u n buffer answer group entry tag ≡ bind (patterned q) (λ x. Ok (record { length = n; bytes = patched_in f.place x buffer }))
  patched_by q found is rises =
      ap (λ o. bind o (λ g. bind (located_as (answer g) g.place tag) (λ x. Ok (record { length = n; bytes = patched_in g.place x buffer })))) found
      ∙ ap (λ o. bind (located_as o f.place tag) (λ x. Ok (record { length = n; bytes = patched_in f.place x buffer }))) (sym is)
      ∙ ap (λ o. bind o (λ x. Ok (record { length = n; bytes = patched_in f.place x buffer }))) (sym (located-patterned r f.place tag) ∙ ap patterned (sym rises))

-- a library's refusal has no place yet
plain_refused : (why : Reason) (o : Option (List ℕ)) (e : Refusal) → ◌≡◌ {A = Result (List ℕ) Refusal} (Err e) (or_refused why o) → e.place ≡ 0
plain_refused why None e is = let h : e ≡ plain why = cc in ap (λ x. x.place) h
plain_refused why (Some x) e is = let z : ◌≡◌ {A = ℕ} 0 1 = cc in absurd (omega arith)

pub written_no_place : (k : Option Kind) (m : Meaning) (r : Result Pattern Refusal) → patterned r ≡ pattern_of k m → IfErr r (λ e. e.place ≡ 0)
written_no_place k m (Ok p) is = tt
written_no_place None m (Err e) is = plain_refused reason.UnknownType None e is
written_no_place (Some k) m (Err e) is = plain_refused reason.NoSuchValue (k.pattern m) e is
