-- Lines are pieces.
use Rattle.std.proofs.Common.{◌≡◌, ℕ, zero, suc, ◌+◌, ◌-◌, ◌<◌, ◌≤◌, Bool, true, false, cond, ◌&&◌, eqb, leb, List, [], ◌∷◌, ◌++◌, length, get_or, take, drop, Some, None, Option, sym, refl, ap, ◌∙◌, arith, length-append, length-drop}
use Rattle.std.proofs.lemmas.List.{length-take-le, take-append-le, take_all, get_or-take, get_or_append_left}
use Rattle.std.proofs.lemmas.Bool.{le-leb, leb-true, eqb-true, and_parts, and_from, cond-true}
use Rattle.schema.specs.Lines.{Line, field, group, end, part, line_size, line_of, first_line, lines_from, lines, onward, field_in, data_in, number_2, number_4}
use Rattle.schema.proofs.Pieces.{Cutting, Pieces, pieces_from, onward_same, enough}

-- what stands under a test that gave something
pub given : {X : Type 0} (b : Bool) (o : Option X) (x : X) → cond b o None ≡ Some x → (b ≡ true) × (o ≡ Some x)
given true o x e = (refl, e)
given false o x e = let z : ◌≡◌ {A = ℕ} 0 1 = cc in absurd (omega arith)

-- one of two
pub one_of : {X : Type 0} (b : Bool) (o r : Option X) (P : Type 0) → (x : X) → (o ≡ Some x → P) → (r ≡ Some x → P) → cond b o r ≡ Some x → P
one_of true o r P x p q e = p e
one_of false o r P x p q e = q e

-- a line of n bytes has the size n
sized : (n sort : ℕ) (l : List ℕ) (x : Line) → length l ≡ n → line_of n sort l ≡ Some x → (line_size x ≡ n) × (2 ≤ n)
sized n sort l x long =
    one_of (eqb sort 1) _ _ _ x
    (λ e.
    let g = given (leb 12 n) (Some (field (field_in l))) x e in
    let h : 12 ≤ n = leb-true 12 n g.0 in
    let is : field (field_in l) ≡ x = cc in
    let rest : length (drop 12 l) ≡ n - 12 = length-drop 12 l ∙ ap (λ k. k - 12) long in
    (ap line_size (sym is) ∙ omega (arith, rest), omega arith))
    (one_of (eqb sort 2) _ _ _ x
    (λ e.
    let g = given (eqb n 8) (Some (group (number_4 l 2) (number_2 l 6))) x e in
    let h : n ≡ 8 = eqb-true n 8 g.0 in
    let is : group (number_4 l 2) (number_2 l 6) ≡ x = cc in
    (ap line_size (sym is) ∙ omega arith, omega arith))
    (one_of (eqb sort 3) _ _ _ x
    (λ e.
    let g = given (eqb n 2) (Some end) x e in
    let h : n ≡ 2 = eqb-true n 2 g.0 in
    let is : end ≡ x = cc in
    (ap line_size (sym is) ∙ omega arith, omega arith))
    (one_of (eqb sort 4) _ None _ x
    (λ e.
    let g = given (eqb n 9) (Some (part (data_in l))) x e in
    let h : n ≡ 9 = eqb-true n 9 g.0 in
    let is : part (data_in l) ≡ x = cc in
    (ap line_size (sym is) ∙ omega arith, omega arith))
    (λ e. let z : ◌≡◌ {A = ℕ} 0 1 = cc in absurd (omega arith)))))

-- the first byte of a first line is its size, and the bytes are there
pub first_line_size : (s : List ℕ) (x : Line) → first_line s ≡ Some x → (line_size x ≡ get_or s 0 0) × (2 ≤ get_or s 0 0) × (get_or s 0 0 ≤ length s) × (2 ≤ length s)
first_line_size s x e =
    let n = get_or s 0 0 in
    let g = given (leb 2 (length s) && leb n (length s)) (line_of n (get_or s 1 0) (take n s)) x e in
    let both = and_parts (leb 2 (length s)) (leb n (length s)) g.0 in
    let two : 2 ≤ length s = leb-true 2 (length s) both.0 in
    let fits : n ≤ length s = leb-true n (length s) both.1 in
    let is = sized n (get_or s 1 0) (take n s) x (length-take-le n s fits) g.1 in
    (is.0, is.1, fits, two)

stays : (s more : List ℕ) (x : Line) → first_line s ≡ Some x → first_line (s ++ more) ≡ Some x
stays s more x e =
    let k = first_line_size s x e in
    let two = k.3 in
    let fits = k.2 in
    let long : length (s ++ more) ≡ length s + length more = length-append s more in
    let zeroth : get_or (s ++ more) 0 0 ≡ get_or s 0 0 = get_or_append_left s more 0 0 (omega arith) in
    let second : get_or (s ++ more) 1 0 ≡ get_or s 1 0 = get_or_append_left s more 0 1 (omega arith) in
    let n = get_or s 0 0 in
    let g = given (leb 2 (length s) && leb n (length s)) (line_of n (get_or s 1 0) (take n s)) x e in
    let here : (leb 2 (length (s ++ more)) && leb n (length (s ++ more))) ≡ true =
    and_from _ _ (le-leb 2 (length (s ++ more)) (omega arith)) (le-leb n (length (s ++ more)) (omega arith)) in
    let front : take n (s ++ more) ≡ take n s = take-append-le n s more fits in
    rw (zeroth, second, front) (cond-true (leb 2 (length (s ++ more)) && leb n (length (s ++ more))) _ None here ∙ g.1)

alone : (s : List ℕ) (x : Line) → first_line s ≡ Some x → first_line (take (line_size x) s) ≡ Some x
alone s x e =
    let k = first_line_size s x e in
    let n = get_or s 0 0 in
    let fits = k.2 in
    let least = k.1 in
    let long : length (take n s) ≡ n = length-take-le n s fits in
    let zeroth : get_or (take n s) 0 0 ≡ n = get_or-take n s 0 0 (omega arith) in
    let second : get_or (take n s) 1 0 ≡ get_or s 1 0 = get_or-take n s 1 0 (omega arith) in
    let g = given (leb 2 (length s) && leb n (length s)) (line_of n (get_or s 1 0) (take n s)) x e in
    let here : (leb 2 (length (take n s)) && leb n (length (take n s))) ≡ true =
    and_from _ _ (le-leb 2 (length (take n s)) (omega arith)) (le-leb n (length (take n s)) (omega arith)) in
    let all : take n (take n s) ≡ take n s = take_all n (take n s) (omega arith) in
    let first : first_line (take n s) ≡ Some x =
    rw (zeroth, second, all) (cond-true (leb 2 (length (take n s)) && leb n (length (take n s))) _ None here ∙ g.1) in
    ap (λ m. first_line (take m s)) k.0 ∙ first

pub cutting_lines : Cutting first_line line_size
cutting_lines = record {
  some = λ s x e. let k = first_line_size s x e in let a = k.0 in let b = k.1 in omega arith;
  within = λ s x e. let k = first_line_size s x e in let a = k.0 in let b = k.2 in omega arith;
  stays = stays;
  alone = alone;
}

from_pieces : (n : ℕ) (s : List ℕ) → lines_from n s ≡ pieces_from first_line line_size n s
from_pieces zero s = refl
from_pieces (suc n) [] = refl
from_pieces (suc n) (b ∷ s) = onward_same (first_line (b ∷ s)) _ _ (λ x e. from_pieces n (drop (line_size x) (b ∷ s)))

pub lines_none : lines [] ≡ []
unfolding lines
lines_none = refl

pub lines_step : (s : List ℕ) → 0 < length s → lines s ≡ onward (first_line s) (λ l. lines (drop (line_size l) s))
unfolding lines
lines_step [] h = absurd (omega arith)
lines_step (b ∷ s) h =
    onward_same (first_line (b ∷ s)) _ _
    (λ x e.
    let k = cutting_lines.some (b ∷ s) x e in
    let rest = drop (line_size x) (b ∷ s) in
    let long : length rest ≡ suc (length s) - line_size x = length-drop (line_size x) (b ∷ s) in
    from_pieces (length s) rest
    ∙ enough first_line line_size cutting_lines (length s) (length rest) rest (omega arith) (omega arith)
    ∙ sym (from_pieces (length rest) rest))

pub line_pieces : Pieces first_line line_size lines
line_pieces = record { cutting = cutting_lines; none = lines_none; step = lines_step }
