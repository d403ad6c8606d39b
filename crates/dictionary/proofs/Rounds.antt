-- The rounds over all templates.
use Rattle.std.proofs.Common.{◌≡◌, ℕ, suc, ◌+◌, leb, List, ◌∷◌, Some, Ok, Err, Option, sym, refl, ap, ◌∙◌, ap₂, add-one}
use Rattle.wire.specs.declared.refusal.Reason.TheVariants as reason
use Rattle.wire.specs.declared.refusal.Refusal.{Refusal}
use Rattle.schema.specs.Verdicts.{Verdict, rule, ◌then◌}
use Rattle.schema.specs.Lines.{lines}
use Rattle.schema.specs.Sections.{Section, section_size, sections}
use Rattle.schema.specs.Shape.{lines_shape, nothing_above, sections_shape}
use Rattle.dictionary.specs.Steps.{section_shape}

pub then_assoc : (u v w : Verdict) → ((u then v) then w) ≡ (u then (v then w))
then_assoc (Ok x) v w = refl
then_assoc (Err e) v w = refl

-- what passes goes on, what is refused ends it
pub passes_on : (v w : Verdict) (x : Unit {0}) → v ≡ Ok x → (v then w) ≡ w
passes_on v w x e = ap (λ u. u then w) e

pub refused_at : (v w : Verdict) (e : Refusal) → v ≡ Err e → (v then w) ≡ Err e
refused_at v w e h = ap (λ u. u then w) h

shape_cons : (least p : ℕ) (t : Section) (ts : List (Option Section)) → sections_shape least p (Some t ∷ ts) ≡ (section_shape least p t then sections_shape (suc t.number) (p + section_size t) ts)
shape_cons least p t ts = sym (then_assoc (rule (leb least t.number) reason.LineName p 0) (lines_shape nothing_above (p + 8) (lines t.body)) (sections_shape (suc t.number) (p + section_size t) ts))

pub shape_more : (rest rest' : List ℕ) (p n least m : ℕ) (t : Section) (v : Verdict) (x : Unit {0}) (all : Verdict) → sections rest ≡ Some t ∷ sections rest' → n ≡ section_size t → m ≡ t.number → v ≡ section_shape least p t → v ≡ Ok x → sections_shape least p (sections rest) ≡ all → sections_shape (m + 1) (p + n) (sections rest') ≡ all
shape_more rest rest' p n least m t v x all cut k named is ok whole =
    ap₂ (λ a q. sections_shape a (p + q) (sections rest')) (add-one m ∙ ap suc named) k
    ∙ sym (passes_on (section_shape least p t) (sections_shape (suc t.number) (p + section_size t) (sections rest')) x (sym is ∙ ok))
    ∙ sym (shape_cons least p t (sections rest'))
    ∙ ap (sections_shape least p) (sym cut)
    ∙ whole

pub shape_refused : (rest rest' : List ℕ) (p least : ℕ) (t : Section) (v : Verdict) (g : Refusal) (all : Verdict) → sections rest ≡ Some t ∷ sections rest' → v ≡ section_shape least p t → v ≡ Err g → sections_shape least p (sections rest) ≡ all → Err g ≡ all
shape_refused rest rest' p least t v g all cut is bad whole =
    sym (refused_at (section_shape least p t) (sections_shape (suc t.number) (p + section_size t) (sections rest')) g (sym is ∙ bad))
    ∙ sym (shape_cons least p t (sections rest'))
    ∙ ap (sections_shape least p) (sym cut)
    ∙ whole
