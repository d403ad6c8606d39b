-- A section written out is the section that its bytes begin with, and back.
use Rattle.std.proofs.Common.{◌≡◌, ℕ, zero, suc, ◌+◌, ◌-◌, ◌^◌, ◌<◌, ◌≤◌, true, ◌&&◌, leb, List, [], ◌∷◌, ◌++◌, map, length, take, drop, Some, None, refl, ap, ◌∙◌, ap₂, arith, length-append, length-drop}
use Rattle.std.specs.List.{flat_map, AllByRecursion}
use Rattle.std.proofs.lemmas.List.{take_at, take-take, take-append-drop, length-take-le}
use Rattle.std.proofs.ByRecursion.{All-drop, All-take}
use Rattle.std.proofs.lemmas.Bool.{leb-true, le-leb, and_parts, and_from, cond_both}
use Rattle.wire.specs.Bytes.{Bytes}
use Rattle.wire.specs.Numbers.{be_value, be_bytes}
use Rattle.wire.proofs.Values.{be_value_of_bytes}
use Rattle.schema.specs.Lines.{number_2, onward, there}
use Rattle.schema.specs.Sections.{Section, section_in, first_section, section_size, sections_from, sections}
use Rattle.schema.proofs.InBytes.{next_number, number_below}
use Rattle.schema.proofs.CutForms.{cut, Whole, Begins, Form, Made, cut_of, cut_back}

abbrev pub section_bytes : Section → List ℕ
section_bytes t = be_bytes 2 (8 + length t.body) ++ (be_bytes 2 t.number ++ (be_bytes 2 t.since ++ (be_bytes 2 t.size ++ t.body)))

-- each number of a section has room, and its length too
abbrev pub FitSection : Section → Type 0
FitSection t = (8 + length t.body < 2 ^ 16) × (t.number < 2 ^ 16) × (t.since < 2 ^ 16) × (t.size < 2 ^ 16) × Bytes t.body

length_section : (t : Section) → length (section_bytes t) ≡ section_size t
length_section t = omega arith

section_some : (t : Section) → 1 ≤ section_size t
section_some t = omega arith

read_front : (n : ℕ) (x more : List ℕ) (t : Section) → 8 ≤ n → length x ≡ n → number_2 (x ++ more) 0 ≡ n → section_in x ≡ t → first_section (x ++ more) ≡ Some t
read_front n x more t h e p r =
    let c : (leb 8 (length (x ++ more)) && (leb 8 n && leb n (length (x ++ more)))) ≡ true =
    and_from _ _ (le-leb 8 _ (simp length-append (omega arith))) (and_from _ _ (le-leb 8 n h) (le-leb n _ (simp length-append (omega arith)))) in
    rw (p, c, take_at x more n e) (ap (λ y. Some y) r)

first_of_section : (t : Section) (more : List ℕ) → FitSection t → first_section (section_bytes t ++ more) ≡ Some t
first_of_section t more h =
    let n : ℕ = 8 + length t.body in
    read_front n (section_bytes t) more t (omega arith) (length_section t) (be_value_of_bytes 2 n h.0)
    (λ i. record {
      number = be_value_of_bytes 2 t.number h.1 i;
      since = be_value_of_bytes 2 t.since h.2 i;
      size = be_value_of_bytes 2 t.size h.3 i;
      body = t.body;
    })

is_section : (n : ℕ) (x : List ℕ) → Bytes x → 8 ≤ n → length x ≡ n → number_2 x 0 ≡ n → (section_bytes (section_in x) ≡ x) × FitSection (section_in x)
is_section n x b h long first =
    let tail : length (drop 8 x) ≡ length x - 8 = length-drop 8 x in
    let p : 8 + length (drop 8 x) ≡ number_2 x 0 = omega arith in
    let top : number_2 x 0 < 256 ^ 2 = number_below 0 2 x b (omega arith) in (
      ap (λ (m : ℕ). be_bytes 2 m ++ (be_bytes 2 (number_2 x 2) ++ (be_bytes 2 (number_2 x 4) ++ (be_bytes 2 (number_2 x 6) ++ drop 8 x)))) p
          ∙ next_number 0 2 x _ b (omega arith)
          (next_number 2 2 x _ b (omega arith)
          (next_number 4 2 x _ b (omega arith)
          (next_number 6 2 x _ b (omega arith) refl))),
      (omega arith, number_below 2 2 x b (omega arith), number_below 4 2 x b (omega arith), number_below 6 2 x b (omega arith), All-drop (λ y. y < 256) 8 x b),
    )

section_at_front : (s : List ℕ) → Bytes s → Begins section_bytes section_size FitSection s (first_section s)
section_at_front s b =
    let n = number_2 s 0 in
    cond_both (leb 8 (length s) && (leb 8 n && leb n (length s))) _ None (Begins section_bytes section_size FitSection s)
    (λ t.
    let h = and_parts (leb 8 (length s)) (leb 8 n && leb n (length s)) t in
    let k = and_parts (leb 8 n) (leb n (length s)) h.1 in
    let l : 8 ≤ n = leb-true 8 n k.0 in
    let m : n ≤ length s = leb-true n _ k.1 in
    let e : length (take n s) ≡ n = length-take-le n s m in
    let i = is_section n (take n s) (All-take (λ y. y < 256) n s b) l e (ap be_value (take-take 2 n s (omega arith))) in
    let tail : length (drop 8 (take n s)) ≡ length (take n s) - 8 = length-drop 8 (take n s) in
    let z : 8 + length (drop 8 (take n s)) ≡ n = omega arith in
    (ap₂ (λ u j. u ++ drop j s) i.0 z ∙ take-append-drop n s, i.1))
    (λ _. tt)

section_form : Form first_section section_size section_bytes FitSection
section_form = record {
  long = length_section;
  some = section_some;
  reads = first_of_section;
  begins = section_at_front;
}

sections_cut : (n : ℕ) (s : List ℕ) → sections_from n s ≡ cut first_section section_size n s
sections_cut zero s = refl
sections_cut (suc n) [] = refl
sections_cut (suc n) (b ∷ s) = λ i. onward (first_section (b ∷ s)) (λ t. sections_cut n (drop (section_size t) (b ∷ s)) i)

-- sections written out are cut into the same sections
pub sections_are : (ts : List Section) → AllByRecursion FitSection ts → sections (flat_map section_bytes ts) ≡ map Some ts
unfolding sections
sections_are ts h =
    sections_cut (length (flat_map section_bytes ts)) (flat_map section_bytes ts)
    ∙ cut_of first_section section_size section_bytes FitSection section_form ts (length (flat_map section_bytes ts)) h (omega arith)

-- bytes that are sections throughout are those sections written out
pub sections_back : (s : List ℕ) → Bytes s → Whole (sections s) → Made section_bytes FitSection s (there (sections s))
unfolding sections
sections_back s b w =
    let e = sections_cut (length s) s in
    rw e (cut_back first_section section_size section_bytes FitSection section_form (length s) s b (omega arith) (rw e at w))
