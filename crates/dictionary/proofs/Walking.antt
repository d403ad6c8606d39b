-- The template at a place of bytes.
use Rattle.std.proofs.Common.{◌≡◌, ℕ, ◌+◌, ◌<◌, ◌≤◌, List, [], ◌∷◌, length, drop, Some, None, Option, sym, ap, ◌∙◌}
use Rattle.schema.specs.Sections.{Section, section_size, first_section, sections}
use Rattle.schema.proofs.Pieces.{Pieces, at_piece, at_no_piece, at_end}
use Rattle.schema.proofs.SectionPieces.{section_pieces}

-- the piece at a place, t being what lies from there on
module _ {X : Type 0} (first : List ℕ → Option X) (size : X → ℕ) (f : List ℕ → List (Option X)) (p : Pieces first size f) where
  pub piece_here : (bs : List ℕ) (at n : ℕ) (t : List ℕ) (x : X) → at < length bs → t ≡ drop at bs → Some x ≡ first t → n ≡ size x → f (drop at bs) ≡ Some x ∷ f (drop (at + n) bs)
  piece_here bs at n t x h e g k =
      at_piece first size f p bs at x h (ap first (sym e) ∙ sym g)
      ∙ ap (λ m. Some x ∷ f (drop (at + m) bs)) (sym k)

  pub no_piece_here : (bs : List ℕ) (at : ℕ) (t : List ℕ) → at < length bs → t ≡ drop at bs → None ≡ first t → f (drop at bs) ≡ None ∷ []
  no_piece_here bs at t h e g = at_no_piece first size f p bs at h (ap first (sym e) ∙ sym g)

pub section_here : (bs : List ℕ) (at n : ℕ) (t : List ℕ) (x : Section) → at < length bs → t ≡ drop at bs → Some x ≡ first_section t → n ≡ section_size x → sections (drop at bs) ≡ Some x ∷ sections (drop (at + n) bs)
section_here = piece_here first_section section_size sections section_pieces

pub no_section_here : (bs : List ℕ) (at : ℕ) (t : List ℕ) → at < length bs → t ≡ drop at bs → None ≡ first_section t → sections (drop at bs) ≡ None ∷ []
no_section_here = no_piece_here first_section section_size sections section_pieces

pub no_section_left : (bs : List ℕ) (at : ℕ) → length bs ≤ at → sections (drop at bs) ≡ []
no_section_left bs at h = at_end first_section section_size sections section_pieces bs at h
