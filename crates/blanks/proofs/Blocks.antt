-- A blank block, written field by field.
use Rattle.std.proofs.Common.{◌≡◌, ℕ, ◌+◌, ◌-◌, ◌≤◌, true, List, [], ◌∷◌, ◌++◌, length, Some, None, Ok, Option, Result, sym, refl, ap, ◌∙◌, subst, append_assoc, arith, length-append}
use native.Mathlib.Nat.{sub-zero}
use lib.ListN.{length-replicate}
use Rattle.std.specs.List.{AllByRecursion}
use Rattle.wire.specs.declared.refusal.Reason.TheVariants as reason
use Rattle.wire.specs.declared.refusal.Refusal.{Refusal}
use Rattle.types.specs.Kinds.{Kind, Known, Lawful, AllLawful}
use Rattle.types.specs.Answers.{or_refused, blank_of}
use Rattle.schema.specs.Structure.{Field, Block}
use Rattle.schema.specs.Geometry.{kind_of, is_known, field_end, width_or_0}
use Rattle.schema.specs.WellFormed.{Places, GoodField, GoodBlock}
use Rattle.message.specs.Blocks.{given_or, written, zeros}
use Rattle.message.specs.Messages.{block_view}
use Rattle.message.proofs.Blocks.{zeros_length}
use Rattle.calls.specs.Changes.{blank_meaning}
use Rattle.moves.specs.Moves.{patched}
use Rattle.moves.proofs.Patches.{patched_on}
use Rattle.blanks.specs.Blanks.{Fitting, blank_block, blank_field, blank_from}

-- ---- the blank of a type

-- a type that is known has a blank, the pattern of what it means, as wide as the type
pub record Blank (k : Option Kind) : Type 0 where
  pub long : length (written k (blank_meaning k)) ≡ width_or_0 k
  pub asked : blank_of k ≡ Ok (written k (blank_meaning k))

pub blank_known : (k : Option Kind) → is_known k ≡ true → ((x : Kind) → k ≡ Some x → Lawful x) → Blank k
blank_known None h lawful = let z : ◌≡◌ {A = ℕ} 0 1 = cc in absurd (omega arith)
blank_known (Some k) h lawful =
    let l = lawful k refl in
    let is : written (Some k) k.blank_means ≡ k.blank = ap (λ o. given_or (or_refused reason.NoSuchValue o) []) l.blank_is in
    record { long = ap length is ∙ l.long k.blank_means k.blank l.blank_is; asked = ap Ok (sym is) }

-- the answer of a library, where the type is known
pub answered : (k : Option Kind) (b : List ℕ) → Blank k → Ok b ≡ blank_of k → (b ≡ written k (blank_meaning k)) × (length b ≡ width_or_0 k)
answered k b h e =
    let all : ◌≡◌ {A = Result (List ℕ) Refusal} (Ok b) (Ok (written k (blank_meaning k))) = e ∙ h.asked in
    let same : b ≡ written k (blank_meaning k) = cc in
    (same, ap length same ∙ h.long)

-- ---- field by field

module _ (known : Known) (lawful : AllLawful known) where
  pub blank_at : (f : Field) → is_known (kind_of known f) ≡ true → Blank (kind_of known f)
  blank_at f h = blank_known (kind_of known f) h (lawful f.type f.argument)

  pub fitting_within : (at : ℕ) (fs : List Field) (size : ℕ) → Fitting known at fs size → at ≤ size
  fitting_within at [] size h = h
  fitting_within at (f ∷ fs) size h = let r = fitting_within (field_end known f) fs size h.2 in let l = h.0 in omega arith

  pub field_long : (at : ℕ) (f : Field) → is_known (kind_of known f) ≡ true → length (blank_field known at f) ≡ f.offset - at + width_or_0 (kind_of known f)
  field_long at f h =
      let w = (blank_at f h).long in
      let z = zeros_length (f.offset - at) in
      length-append (zeros (f.offset - at)) (written (kind_of known f) (blank_meaning (kind_of known f))) ∙ omega (arith, w, z)

  pub from_long : (at : ℕ) (fs : List Field) (size : ℕ) → Fitting known at fs size → length (blank_from known at fs size) ≡ size - at
  from_long at [] size h = zeros_length (size - at)
  from_long at (f ∷ fs) size h =
      let r = from_long (field_end known f) fs size h.2 in
      let e = fitting_within (field_end known f) fs size h.2 in
      let w = (blank_at f h.1).long in
      let l = h.0 in
      simp (length-append, length-replicate) (omega arith)

  -- zeros up to a field, and then its blank
  pub field_put : (base at : ℕ) (f : Field) (b bs mid out : List ℕ) → at ≤ f.offset → is_known (kind_of known f) ≡ true → Ok b ≡ blank_of (kind_of known f) → base + field_end known f ≤ length bs → mid ≡ patched (base + at) (zeros (f.offset - at)) bs → out ≡ patched (base + f.offset) b mid → out ≡ patched (base + at) (blank_field known at f) bs
  field_put base at f b bs mid out low h e room m o =
      let a = answered (kind_of known f) b (blank_at f h) e in
      let z = zeros_length (f.offset - at) in
      let w = a.1 in
      let x = zeros (f.offset - at) in
      let far : base + f.offset ≡ base + at + length x = omega arith in
      patched_on (base + at) (base + f.offset) x b bs mid out m o far (omega arith)
      ∙ ap (λ (t : List ℕ). patched (base + at) (x ++ t) bs) a.0

  -- what is left to write behind a field gives what the whole gives
  pub field_more : (base at end : ℕ) (f : Field) (fs now_fs : List Field) (size : ℕ) (bs out all : List ℕ) → now_fs ≡ f ∷ fs → Fitting known at now_fs size → base + size ≤ length bs → out ≡ patched (base + at) (blank_field known at f) bs → end ≡ field_end known f → patched (base + at) (blank_from known at now_fs size) bs ≡ all → Fitting known end fs size × (patched (base + end) (blank_from known end fs size) out ≡ all)
  field_more base at end f fs now_fs size bs out all here fit room e q inv =
      let fits : Fitting known at (f ∷ fs) size = subst (λ (t : List Field). Fitting known at t size) here fit in
      let behind : Fitting known end fs size = subst (λ (n : ℕ). Fitting known n fs size) (sym q) fits.2 in
      let x = blank_field known at f in
      let y = blank_from known end fs size in
      let long = field_long at f fits.1 in
      let rest = from_long end fs size behind in
      let within = fitting_within end fs size behind in
      let low = fits.0 in
      let far : base + end ≡ base + at + length x = omega arith in
      let step : patched (base + end) y out ≡ patched (base + at) (x ++ y) bs = patched_on (base + at) (base + end) x y bs out (patched (base + end) y out) e refl far (omega arith) in
      let same : y ≡ blank_from known (field_end known f) fs size = ap (λ (n : ℕ). blank_from known n fs size) q in
      let whole : x ++ y ≡ blank_from known at (f ∷ fs) size =
      ap (λ (t : List ℕ). x ++ t) same
      ∙ append_assoc (zeros (f.offset - at)) (written (kind_of known f) (blank_meaning (kind_of known f))) (blank_from known (field_end known f) fs size)
      in
      (behind, step ∙ ap (λ (t : List ℕ). patched (base + at) t bs) (whole ∙ ap (λ (t : List Field). blank_from known at t size) (sym here)) ∙ inv)

  -- where a field ends, there is room
  pub field_room : (base at : ℕ) (f : Field) (fs now_fs : List Field) (size room : ℕ) → now_fs ≡ f ∷ fs → Fitting known at now_fs size → base + size ≤ room → (at ≤ f.offset) × (is_known (kind_of known f) ≡ true) × (base + field_end known f ≤ room)
  field_room base at f fs now_fs size room here fit h =
      let fits : Fitting known at (f ∷ fs) size = subst (λ (t : List Field). Fitting known at t size) here fit in
      let within = fitting_within (field_end known f) fs size fits.2 in
      (fits.0, fits.1, omega arith)

  -- a blank block is as long as it says
  pub block_long : (b : Block) → Fitting known 0 b.fields b.size → length (blank_block (block_view known b)) ≡ b.size
  block_long b fit = from_long 0 b.fields b.size fit ∙ sub-zero b.size

-- ---- from a well-formed dictionary

module _ (known : Known) where
  fields_fitting : (taken size : ℕ) (fs : List Field) → taken ≤ size → AllByRecursion (GoodField known) fs → Places known taken size fs → Fitting known taken fs size
  fields_fitting taken size [] l g p = l
  fields_fitting taken size (f ∷ fs) l g p = (p.0, ap is_known g.0.known_type, fields_fitting (field_end known f) size fs p.1 g.1 p.2)

  -- the fields of a block of a well-formed dictionary fit
  pub block_fitting : (version : ℕ) (b : Block) → GoodBlock known version b → Fitting known 0 b.fields b.size
  block_fitting version b g = fields_fitting 0 b.size b.fields (omega arith) g.fields g.places
