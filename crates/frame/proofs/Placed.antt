-- The template of a frame: where it stands in the dictionary, how long it is, and what follows its geometry.
use Rattle.std.proofs.Common.{◌≡◌, ℕ, zero, suc, ◌+◌, ◌-◌, ◌<◌, ◌≤◌, Bool, true, false, cond, ◌&&◌, eqb, leb, List, length, take, drop, Some, None, Option, sym, refl, ap, ◌∙◌, subst, ⊎_elim, lt_of_lt_of_le, arith, lit<, length-drop, length-take, Ok, Err, Result}
use native.Mathlib.Nat.{pow-le-pow_right}
use Rattle.std.proofs.ByRecursion.{All-take, All-drop}
use Rattle.std.proofs.lemmas.Bool.Decides.{leb_tells}
use Rattle.wire.specs.Bytes.{Bytes}
use Rattle.wire.specs.declared.refusal.Refusal.{Refusal}
use Rattle.wire.specs.Refusals.{bind}
use Rattle.schema.specs.Verdicts.{Verdict}
use Rattle.wire.specs.Numbers.{be_value}
use Rattle.wire.proofs.Values.{be_value_below}
use Rattle.schema.specs.Lines.{number_2, there}
use Rattle.schema.specs.Sections.{Section, section_size, first_section, sections}
use Rattle.schema.specs.Finding.{PlacedSection, section_at}
use Rattle.schema.proofs.SectionPieces.{first_told}
use Rattle.dictionary.proofs.Walking.{section_here, no_section_here, no_section_left}

-- a template lies within the dictionary's bytes, and its lines have at most 65,535 bytes
abbrev pub Within : List ℕ → PlacedSection → Type 0
Within s x = (x.place + 8 + length x.section.body ≤ length s) × (length x.section.body ≤ 65535)

number_below : (s : List ℕ) → Bytes s → number_2 s 0 ≤ 65535
number_below s h =
    let short : length (take 2 s) ≤ 2 = simp length-take (omega arith) in
    let n : be_value (take 2 s) < 65536 = lt_of_lt_of_le (be_value_below (take 2 s) (All-take (λ b. b < 256) 2 s h)) (pow-le-pow_right (lit< tt) short) in
    omega arith

module _ (number u : ℕ) (s : List ℕ) (bytes : Bytes s) where
  here : (p : ℕ) (t : Section) → p < length s → first_section (drop p s) ≡ Some t → (Within s (record { place = p; section = t })) × (1 ≤ section_size t)
  here p t h e =
      let k = first_told (drop p s) t e in
      let size = k.size in
      let least = k.least in
      let fits = k.fits in
      let long : length (drop p s) ≡ length s - p = length-drop p s in
      let below = number_below (drop p s) (All-drop (λ b. b < 256) p s bytes) in
      ((omega arith, omega arith), omega arith)

  -- the one at p, or one behind it
  by_test' : (p : ℕ) (t : Section) (x : PlacedSection) (b : Bool) (o : Option PlacedSection) → Within s (record { place = p; section = t }) → (o ≡ Some x → Within s x) → cond b (Some (record { place = p; section = t })) o ≡ Some x → Within s x
  by_test' p t x true o w go is =
      let same : record { place = p; section = t } ≡ x = cc in
      subst (Within s) same w
  by_test' p t x false o w go is = go is

  by_first : (p : ℕ) (x : PlacedSection) (o : Option Section) → p < length s → first_section (drop p s) ≡ o → ((q : ℕ) → p < q → section_at number u q (there (sections (drop q s))) ≡ Some x → Within s x) → section_at number u p (there (sections (drop p s))) ≡ Some x → Within s x
  by_first p x None inside f go e =
      let none : ◌≡◌ {A = Option PlacedSection} None (Some x) = sym (ap (λ ts. section_at number u p (there ts)) (no_section_here s p (drop p s) inside refl (sym f))) ∙ e in
      let z : ◌≡◌ {A = ℕ} 0 1 = cc in absurd (omega arith)
  by_first p x (Some t) inside f go e =
      let w = here p t inside f in
      let some = w.1 in
      by_test' p t x (leb t.since u && eqb t.number number) (section_at number u (p + section_size t) (there (sections (drop (p + section_size t) s)))) w.0 (λ is. go (p + section_size t) (omega arith) is)
      (sym (ap (λ ts. section_at number u p (there ts)) (section_here s p (section_size t) (drop p s) t inside refl (sym f) refl)) ∙ e)

  ended : (p : ℕ) (x : PlacedSection) → length s ≤ p → section_at number u p (there (sections (drop p s))) ≡ Some x → Within s x
  ended p x past e =
      let none : ◌≡◌ {A = Option PlacedSection} None (Some x) = sym (ap (λ ts. section_at number u p (there ts)) (no_section_left s p past)) ∙ e in
      let z : ◌≡◌ {A = ℕ} 0 1 = cc in absurd (omega arith)

  found_within : (n p : ℕ) (x : PlacedSection) → length s - p ≤ n → section_at number u p (there (sections (drop p s))) ≡ Some x → Within s x
  found_within zero p x turns e = ended p x (omega arith) e
  found_within (suc n) p x turns e =
      ⊎_elim
      (λ a. ended p x a.1 e)
      (λ a. by_first p x (first_section (drop p s)) a.1 refl (λ q more is. let inside = a.1 in found_within n q x (omega arith) is) e)
      (leb_tells (length s) p)

  pub within : (x : PlacedSection) → Some x ≡ section_at number u 7 (there (sections (drop 7 s))) → Within s x
  within x e = found_within (length s) 7 x (omega arith) (sym e)

-- what comes of a template once its geometry passes
pub after_geometry : {X : Type 0} (v : Verdict) (t : Section) (f : Option Section → Result X Refusal) → bind v (λ _. f (Some t)) ≡ bind (bind v (λ _. Ok (Some t))) f
after_geometry (Ok x) t f = refl
after_geometry (Err e) t f = refl
