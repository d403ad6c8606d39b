-- One step of a walk that cuts pieces off its bytes.
use Rattle.std.proofs.Common.{◌≡◌, ◌==◌, true, ℕ, ◌+◌, ◌-◌, ◌<◌, ◌≤◌, List, [], ◌∷◌, length, drop, Some, None, Option, sym, refl, ap, ◌∙◌, arith, length-drop}
use Rattle.std.proofs.lemmas.Bool.{eqb-true}
use Rattle.schema.specs.Lines.{Line, line_size, first_line, lines, onward, there}
use Rattle.schema.specs.Sections.{Section, section_size, first_section, sections}
use Rattle.schema.proofs.Pieces.{Pieces}
use Rattle.schema.proofs.LinePieces.{line_pieces}
use Rattle.schema.proofs.SectionPieces.{section_pieces}

-- what a step that gives a piece says of the bytes before and behind it
pub record Cut {X : Type 0} (size : X → ℕ) (f : List ℕ → List (Option X)) (s rest : List ℕ) (x : X) : Type 0 where
  pub all : f s ≡ Some x ∷ f rest
  pub left : there (f s) ≡ x ∷ there (f rest)
  pub long : length rest + size x ≡ length s
  pub some : 0 < size x

module _ {X : Type 0} (first : List ℕ → Option X) (size : X → ℕ) (f : List ℕ → List (Option X)) (p : Pieces first size f) where
  pub nothing : (s : List ℕ) → first s ≡ None → there (f s) ≡ []
  nothing [] e = ap there p.none
  nothing (b ∷ s) e = ap there (p.step (b ∷ s) (omega arith) ∙ ap (λ o. onward o (λ x. f (drop (size x) (b ∷ s)))) e)

  pub none_left : (s : List ℕ) → length s ≤ 0 → f s ≡ []
  none_left [] h = p.none
  none_left (b ∷ s) h = absurd (omega arith)

  pub broken : (s : List ℕ) → first s ≡ None → 0 < length s → f s ≡ None ∷ []
  broken s e h = p.step s h ∙ ap (λ o. onward o (λ x. f (drop (size x) s))) e

  pub fits : (s : List ℕ) (x : X) → first s ≡ Some x → size x ≤ length s
  fits s x e = p.cutting.within s x e

  pub cut : (s rest : List ℕ) (x : X) → first s ≡ Some x → rest ≡ drop (size x) s → Cut size f s rest x
  cut s rest x e r =
      let a = p.cutting.within s x e in
      let b = p.cutting.some s x e in
      let long : length rest ≡ length s - size x = ap length r ∙ length-drop (size x) s in
      let all : f s ≡ Some x ∷ f rest =
      p.step s (omega arith) ∙ ap (λ o. onward o (λ y. f (drop (size y) s))) e ∙ ap (λ t. Some x ∷ f t) (sym r) in
      record { all = all; left = ap there all; long = omega arith; some = omega arith }

  -- the walk at its end, and the walk that goes on
  pub ends : (s : List ℕ) → None ≡ first s → ((there (f s) ≡ []) × (there (f s) ≡ [])) × ((first s ≡ None) × (s ≡ s))
  ends s e = let none = nothing s (sym e) in ((none, none), (sym e, refl))

  pub goes_on : (s rest : List ℕ) (x : X) (n : ℕ) → Some x ≡ first s → n ≡ size x → rest ≡ drop n s → ((there (f s) ≡ x ∷ there (f rest)) × (length rest + size x ≤ length s)) × ((first s ≡ Some x) × (rest ≡ drop (size x) s))
  goes_on s rest x n e k r =
      let is : rest ≡ drop (size x) s = r ∙ ap (λ m. drop m s) k in
      let c = cut s rest x (sym e) is in
      let long = c.long in
      ((c.left, omega arith), (sym e, is))

pub no_line : (s : List ℕ) → first_line s ≡ None → there (lines s) ≡ []
no_line = nothing first_line line_size lines line_pieces

pub broken_line : (s : List ℕ) → first_line s ≡ None → 0 < length s → lines s ≡ None ∷ []
broken_line = broken first_line line_size lines line_pieces

pub line_fits : (s : List ℕ) (x : Line) → first_line s ≡ Some x → line_size x ≤ length s
line_fits = fits first_line line_size lines line_pieces

pub line_cut : (s rest : List ℕ) (x : Line) → first_line s ≡ Some x → rest ≡ drop (line_size x) s → Cut line_size lines s rest x
line_cut = cut first_line line_size lines line_pieces

pub no_section : (s : List ℕ) → first_section s ≡ None → there (sections s) ≡ []
no_section = nothing first_section section_size sections section_pieces

pub broken_section : (s : List ℕ) → first_section s ≡ None → 0 < length s → sections s ≡ None ∷ []
broken_section = broken first_section section_size sections section_pieces

pub section_fits : (s : List ℕ) (x : Section) → first_section s ≡ Some x → section_size x ≤ length s
section_fits = fits first_section section_size sections section_pieces

pub section_cut : (s rest : List ℕ) (x : Section) → first_section s ≡ Some x → rest ≡ drop (section_size x) s → Cut section_size sections s rest x
section_cut = cut first_section section_size sections section_pieces

pub lines_end : (s : List ℕ) → None ≡ first_line s → ((there (lines s) ≡ []) × (there (lines s) ≡ [])) × ((first_line s ≡ None) × (s ≡ s))
lines_end = ends first_line line_size lines line_pieces

pub lines_go_on : (s rest : List ℕ) (x : Line) (n : ℕ) → Some x ≡ first_line s → n ≡ line_size x → rest ≡ drop n s → ((there (lines s) ≡ x ∷ there (lines rest)) × (length rest + line_size x ≤ length s)) × ((first_line s ≡ Some x) × (rest ≡ drop (line_size x) s))
lines_go_on = goes_on first_line line_size lines line_pieces

pub sections_end : (s : List ℕ) → None ≡ first_section s → ((there (sections s) ≡ []) × (there (sections s) ≡ [])) × ((first_section s ≡ None) × (s ≡ s))
sections_end = ends first_section section_size sections section_pieces

pub sections_go_on : (s rest : List ℕ) (x : Section) (n : ℕ) → Some x ≡ first_section s → n ≡ section_size x → rest ≡ drop n s → ((there (sections s) ≡ x ∷ there (sections rest)) × (length rest + section_size x ≤ length s)) × ((first_section s ≡ Some x) × (rest ≡ drop (section_size x) s))
sections_go_on = goes_on first_section section_size sections section_pieces

-- where no bytes are left there is no line, and a walk over them is at its end
pub no_bytes : (s : List ℕ) → (length s == 0) ≡ true → ((there (lines s) ≡ []) × (there (lines s) ≡ [])) × ((first_line s ≡ None) × (s ≡ s))
no_bytes [] e = lines_end [] refl
no_bytes (b ∷ s) e = let z = eqb-true (length (b ∷ s)) 0 e in absurd (omega arith)

-- behind the first of a list there is less
pub fewer : {X : Type 0} (l m : List X) (x : X) → l ≡ x ∷ m → length m < length l
fewer l m x e = let k = ap length e in omega arith
