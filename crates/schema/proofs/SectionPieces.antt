-- Sections are pieces.
use Rattle.std.proofs.Common.{◌≡◌, ℕ, zero, suc, ◌+◌, ◌-◌, ◌<◌, ◌≤◌, true, ◌&&◌, leb, List, [], ◌∷◌, ◌++◌, length, take, drop, Some, None, sym, refl, ap, ◌∙◌, arith, length-append, length-drop}
use Rattle.std.proofs.lemmas.List.{length-take-le, take-append-le, take_all, take-take}
use Rattle.std.proofs.lemmas.Bool.{le-leb, leb-true, and_parts, and_from, cond-true}
use Rattle.wire.specs.Numbers.{be_value}
use Rattle.schema.specs.Lines.{number_2, onward}
use Rattle.schema.specs.Sections.{Section, section_in, first_section, section_size, sections_from, sections}
use Rattle.schema.proofs.LinePieces.{given}
use Rattle.schema.proofs.Pieces.{Cutting, Pieces, pieces_from, onward_same, enough}

-- what a first section tells of the bytes
pub record First (s : List ℕ) (t : Section) : Type 0 where
  pub is : section_in (take (number_2 s 0) s) ≡ t
  pub least : 8 ≤ number_2 s 0
  pub fits : number_2 s 0 ≤ length s
  pub size : section_size t ≡ number_2 s 0

pub first_told : (s : List ℕ) (t : Section) → first_section s ≡ Some t → First s t
first_told s t e =
    let n = number_2 s 0 in
    let g = given (leb 8 (length s) && (leb 8 n && leb n (length s))) (Some (section_in (take n s))) t e in
    let both = and_parts (leb 8 (length s)) (leb 8 n && leb n (length s)) g.0 in
    let two = and_parts (leb 8 n) (leb n (length s)) both.1 in
    let least : 8 ≤ n = leb-true 8 n two.0 in
    let fits : n ≤ length s = leb-true n (length s) two.1 in
    let is : section_in (take n s) ≡ t = cc in
    let long : length (drop 8 (take n s)) ≡ n - 8 = length-drop 8 (take n s) ∙ ap (λ k. k - 8) (length-take-le n s fits) in
    record { is = is; least = least; fits = fits; size = ap section_size (sym is) ∙ omega (arith, long) }

pub first_shown : (s : List ℕ) (n : ℕ) → number_2 s 0 ≡ n → 8 ≤ n → n ≤ length s → first_section s ≡ Some (section_in (take n s))
first_shown s n e least fits =
    let here : (leb 8 (length s) && (leb 8 n && leb n (length s))) ≡ true =
    and_from (leb 8 (length s)) _ (le-leb 8 (length s) (omega arith)) (and_from (leb 8 n) _ (le-leb 8 n least) (le-leb n (length s) fits)) in
    rw e (cond-true (leb 8 (length s) && (leb 8 n && leb n (length s))) (Some (section_in (take n s))) None here)

stays : (s more : List ℕ) (t : Section) → first_section s ≡ Some t → first_section (s ++ more) ≡ Some t
stays s more t e =
    let k = first_told s t e in
    let least = k.least in
    let fits = k.fits in
    let n = number_2 s 0 in
    let long : length (s ++ more) ≡ length s + length more = length-append s more in
    let front : number_2 (s ++ more) 0 ≡ n = ap be_value (take-append-le 2 s more (omega arith)) in
    first_shown (s ++ more) n front least (omega arith)
    ∙ ap (λ l. Some (section_in l)) (take-append-le n s more fits)
    ∙ ap (λ x. Some x) k.is

alone : (s : List ℕ) (t : Section) → first_section s ≡ Some t → first_section (take (section_size t) s) ≡ Some t
alone s t e =
    let k = first_told s t e in
    let least = k.least in
    let fits = k.fits in
    let n = number_2 s 0 in
    let long : length (take n s) ≡ n = length-take-le n s fits in
    let front : number_2 (take n s) 0 ≡ n = ap be_value (take-take 2 n s (omega arith)) in
    ap (λ m. first_section (take m s)) k.size
    ∙ first_shown (take n s) n front least (omega arith)
    ∙ ap (λ l. Some (section_in l)) (take_all n (take n s) (omega arith))
    ∙ ap (λ x. Some x) k.is

pub cutting_sections : Cutting first_section section_size
cutting_sections = record {
  some = λ s t e. let k = first_told s t e in let a = k.size in let b = k.least in omega arith;
  within = λ s t e. let k = first_told s t e in let a = k.size in let b = k.fits in omega arith;
  stays = stays;
  alone = alone;
}

from_pieces : (n : ℕ) (s : List ℕ) → sections_from n s ≡ pieces_from first_section section_size n s
from_pieces zero s = refl
from_pieces (suc n) [] = refl
from_pieces (suc n) (b ∷ s) = onward_same (first_section (b ∷ s)) _ _ (λ t e. from_pieces n (drop (section_size t) (b ∷ s)))

pub sections_none : sections [] ≡ []
unfolding sections
sections_none = refl

pub sections_step : (s : List ℕ) → 0 < length s → sections s ≡ onward (first_section s) (λ t. sections (drop (section_size t) s))
unfolding sections
sections_step [] h = absurd (omega arith)
sections_step (b ∷ s) h =
    onward_same (first_section (b ∷ s)) _ _
    (λ t e.
    let k = cutting_sections.some (b ∷ s) t e in
    let rest = drop (section_size t) (b ∷ s) in
    let long : length rest ≡ suc (length s) - section_size t = length-drop (section_size t) (b ∷ s) in
    from_pieces (length s) rest
    ∙ enough first_section section_size cutting_sections (length s) (length rest) rest (omega arith) (omega arith)
    ∙ sym (from_pieces (length rest) rest))

pub section_pieces : Pieces first_section section_size sections
section_pieces = record { cutting = cutting_sections; none = sections_none; step = sections_step }
