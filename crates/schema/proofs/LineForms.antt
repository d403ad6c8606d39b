-- A line written out is the line that its bytes begin with, and back.
use Rattle.std.proofs.Common.{◌≡◌, ℕ, zero, suc, ◌+◌, ◌-◌, ◌^◌, ◌<◌, ◌≤◌, true, ◌&&◌, eqb, leb, List, [], ◌∷◌, ◌++◌, map, length, get_or, take, drop, Some, None, Option, sym, refl, ◌∙◌, ap₂, arith, length-append, length-drop}
use Rattle.std.specs.List.{AllByRecursion}
use Rattle.std.proofs.lemmas.List.{take_at, take-append-drop, length-take-le, get_or-take, drop_all}
use Rattle.std.proofs.ByRecursion.{All-drop, All-take, All-append}
use Rattle.std.proofs.lemmas.Bool.{leb-true, eqb-true, le-leb, and_parts, and_from, cond_both}
use Rattle.wire.specs.Bytes.{Bytes}
use Rattle.wire.specs.Numbers.{be_bytes}
use Rattle.wire.proofs.Values.{be_value_of_bytes, be_bytes_are_bytes}
use Rattle.schema.specs.Structure.{Field, Data}
use Rattle.schema.specs.Lines.{Line, field, group, end, part, line_size, number_2, number_4, field_in, data_in, line_of, first_line, onward, lines_from, lines, there}
use Rattle.schema.specs.Writing.{line_bytes, lines_bytes}
use Rattle.schema.proofs.InBytes.{next_byte, next_number, number_below, byte_below}
use Rattle.schema.proofs.CutForms.{cut, Whole, Begins, Form, Made, cut_of, cut_back}

-- each number of a line has room
abbrev pub FitField : Field → Type 0
FitField f = (f.tag < 2 ^ 32) × (f.offset < 2 ^ 16) × (f.since < 2 ^ 16) × (f.type < 2 ^ 8) × (f.presence < 2 ^ 8) × (length f.argument ≤ 243) × Bytes f.argument

abbrev pub FitPart : Data → Type 0
FitPart d = (d.tag < 2 ^ 32) × (d.since < 2 ^ 16) × (d.longest < 2 ^ 8) × (d.prefix ≡ 1)

abbrev pub FitLine : Line → Type 0
FitLine (field f) = FitField f
FitLine (group tag size) = (tag < 2 ^ 32) × (size < 2 ^ 16)
FitLine end = Unit {0}
FitLine (part d) = FitPart d

pub length_line : (l : Line) → length (line_bytes l) ≡ line_size l
length_line (field f) = omega arith
length_line (group tag size) = refl
length_line end = refl
length_line (part d) = refl

line_some : (l : Line) → 1 ≤ line_size l
line_some (field f) = omega arith
line_some (group tag size) = omega arith
line_some end = omega arith
line_some (part d) = omega arith

-- what follows plays no part
read_front : (n sort : ℕ) (x more : List ℕ) (l : Line) → 2 ≤ n → length x ≡ n → get_or (x ++ more) 0 0 ≡ n → get_or (x ++ more) 1 0 ≡ sort → line_of n sort x ≡ Some l → first_line (x ++ more) ≡ Some l
read_front n sort x more l h e p q r =
    let t : (leb 2 (length (x ++ more)) && leb n (length (x ++ more))) ≡ true =
    and_from _ _ (le-leb 2 _ (simp length-append (omega arith))) (le-leb n _ (simp length-append (omega arith))) in
    rw (p, q, t, take_at x more n e) r

pub first_of_line : (l : Line) (more : List ℕ) → FitLine l → first_line (line_bytes l ++ more) ≡ Some l
first_of_line (field f) more h =
    let n : ℕ = 12 + length f.argument in
    let t : leb 12 n ≡ true = le-leb 12 n (omega arith) in
    read_front n 1 (line_bytes (field f)) more (field f) (omega arith) (length_line (field f)) refl refl
    (rw t (λ i. Some (field (record {
      tag = be_value_of_bytes 4 f.tag h.0 i;
      offset = be_value_of_bytes 2 f.offset h.1 i;
      since = be_value_of_bytes 2 f.since h.2 i;
      type = f.type;
      presence = f.presence;
      argument = f.argument;
    }))))
first_of_line (group tag size) more h =
    read_front 8 2 (line_bytes (group tag size)) more (group tag size) (omega arith) refl refl refl
    (λ i. Some (group (be_value_of_bytes 4 tag h.0 i) (be_value_of_bytes 2 size h.1 i)))
first_of_line end more h = read_front 2 3 (line_bytes end) more end (omega arith) refl refl refl refl
first_of_line (part d) more h =
    read_front 9 4 (line_bytes (part d)) more (part d) (omega arith) refl refl refl
    (λ i. Some (part (record {
      tag = be_value_of_bytes 4 d.tag h.0 i;
      since = be_value_of_bytes 2 d.since h.1 i;
      longest = d.longest;
      prefix = sym h.3 i;
    })))

-- bytes are a line's, all of whose numbers have room
abbrev pub IsLine : List ℕ → Option Line → Type 0
IsLine x None = Unit {0}
IsLine x (Some l) = (line_bytes l ≡ x) × (line_size l ≡ length x) × FitLine l

module _ (n sort : ℕ) (x : List ℕ) (b : Bytes x) (long : length x ≡ n) (first : 2 ≤ n → get_or x 0 0 ≡ n) (second : 2 ≤ n → get_or x 1 0 ≡ sort) where
  headed : (m s : ℕ) (rest : List ℕ) → n ≡ m → sort ≡ s → 2 ≤ n → rest ≡ drop 2 x → m ∷ (s ∷ rest) ≡ x
  headed m s rest p q h e =
      ap₂ (λ u v. u ∷ (v ∷ rest)) (sym p ∙ sym (first h)) (sym q ∙ sym (second h))
      ∙ next_byte 0 x (get_or x 1 0 ∷ rest) (omega arith) (next_byte 1 x rest (omega arith) e)

  is_field : 12 ≤ n → sort ≡ 1 → IsLine x (Some (field (field_in x)))
  is_field h q =
      let tail : length (drop 12 x) ≡ length x - 12 = length-drop 12 x in
      let l = first (omega arith) in
      let top : get_or x 0 0 < 256 = byte_below 0 x b (omega arith) in
      let p : n ≡ 12 + length (drop 12 x) = omega arith in (
        headed (12 + length (drop 12 x)) 1 _ p q (omega arith)
            (next_number 2 4 x _ b (omega arith)
            (next_number 6 2 x _ b (omega arith)
            (next_number 8 2 x _ b (omega arith)
            (next_byte 10 x _ (omega arith)
            (next_byte 11 x _ (omega arith) refl))))),
        omega arith,
        (number_below 2 4 x b (omega arith), number_below 6 2 x b (omega arith), number_below 8 2 x b (omega arith), byte_below 10 x b (omega arith), byte_below 11 x b (omega arith), omega arith, All-drop (λ y. y < 256) 12 x b),
      )

  is_group : n ≡ 8 → sort ≡ 2 → IsLine x (Some (group (number_4 x 2) (number_2 x 6)))
  is_group p q = (
    headed 8 2 _ p q (omega arith)
        (next_number 2 4 x _ b (omega arith)
        (next_number 6 2 x [] b (omega arith) (sym (drop_all 8 x (omega arith))))),
    omega arith,
    (number_below 2 4 x b (omega arith), number_below 6 2 x b (omega arith)),
  )

  is_end : n ≡ 2 → sort ≡ 3 → IsLine x (Some end)
  is_end p q = (headed 2 3 [] p q (omega arith) (sym (drop_all 2 x (omega arith))), omega arith, tt)

  is_part : n ≡ 9 → sort ≡ 4 → IsLine x (Some (part (data_in x)))
  is_part p q = (
    headed 9 4 _ p q (omega arith)
        (next_number 2 4 x _ b (omega arith)
        (next_number 6 2 x _ b (omega arith)
        (next_byte 8 x [] (omega arith) (sym (drop_all 9 x (omega arith)))))),
    omega arith,
    (number_below 2 4 x b (omega arith), number_below 6 2 x b (omega arith), byte_below 8 x b (omega arith), refl),
  )

  is_line : IsLine x (line_of n sort x)
  is_line =
      cond_both (eqb sort 1) _ _ (IsLine x)
      (λ q. cond_both (leb 12 n) _ _ (IsLine x) (λ p. is_field (leb-true 12 n p) (eqb-true sort 1 q)) (λ _. tt))
      (λ _. cond_both (eqb sort 2) _ _ (IsLine x)
      (λ q. cond_both (eqb n 8) _ _ (IsLine x) (λ p. is_group (eqb-true n 8 p) (eqb-true sort 2 q)) (λ _. tt))
      (λ _. cond_both (eqb sort 3) _ _ (IsLine x)
      (λ q. cond_both (eqb n 2) _ _ (IsLine x) (λ p. is_end (eqb-true n 2 p) (eqb-true sort 3 q)) (λ _. tt))
      (λ _. cond_both (eqb sort 4) _ _ (IsLine x)
      (λ q. cond_both (eqb n 9) _ _ (IsLine x) (λ p. is_part (eqb-true n 9 p) (eqb-true sort 4 q)) (λ _. tt))
      (λ _. tt))))

begins : (n : ℕ) (s : List ℕ) (o : Option Line) → n ≤ length s → IsLine (take n s) o → Begins line_bytes line_size FitLine s o
begins n s None h i = tt
begins n s (Some l) h i =
    let e : line_size l ≡ n = i.1 ∙ length-take-le n s h in
    (ap₂ (λ u m. u ++ drop m s) i.0 e ∙ take-append-drop n s, i.2)

pub line_at_front : (s : List ℕ) → Bytes s → Begins line_bytes line_size FitLine s (first_line s)
line_at_front s b =
    let n = get_or s 0 0 in
    cond_both (leb 2 (length s) && leb n (length s)) _ None (Begins line_bytes line_size FitLine s)
    (λ t.
    let h = and_parts (leb 2 (length s)) (leb n (length s)) t in
    let l : 2 ≤ length s = leb-true 2 _ h.0 in
    let m : n ≤ length s = leb-true n _ h.1 in
    begins n s (line_of n (get_or s 1 0) (take n s)) m
    (is_line n (get_or s 1 0) (take n s) (All-take (λ y. y < 256) n s b) (length-take-le n s m) (λ k. get_or-take n s 0 0 (omega arith)) (λ k. get_or-take n s 1 0 (omega arith))))
    (λ _. tt)

line_form : Form first_line line_size line_bytes FitLine
line_form = record {
  long = length_line;
  some = line_some;
  reads = first_of_line;
  begins = line_at_front;
}

lines_cut : (n : ℕ) (s : List ℕ) → lines_from n s ≡ cut first_line line_size n s
lines_cut zero s = refl
lines_cut (suc n) [] = refl
lines_cut (suc n) (b ∷ s) = λ i. onward (first_line (b ∷ s)) (λ l. lines_cut n (drop (line_size l) (b ∷ s)) i)

-- lines written out are cut into the same lines
pub lines_of : (ls : List Line) → AllByRecursion FitLine ls → lines (lines_bytes ls) ≡ map Some ls
unfolding lines
lines_of ls h =
    lines_cut (length (lines_bytes ls)) (lines_bytes ls)
    ∙ cut_of first_line line_size line_bytes FitLine line_form ls (length (lines_bytes ls)) h (omega arith)

-- bytes that are lines throughout are those lines written out
pub lines_back : (s : List ℕ) → Bytes s → Whole (lines s) → Made line_bytes FitLine s (there (lines s))
unfolding lines
lines_back s b w =
    let e = lines_cut (length s) s in
    rw e (cut_back first_line line_size line_bytes FitLine line_form (length s) s b (omega arith) (rw e at w))

-- a number's bytes in front of others
number_front : (w n : ℕ) (s : List ℕ) → Bytes s → Bytes (be_bytes w n ++ s)
number_front w n s h = All-append (λ b. b < 256) (be_bytes w n) s (be_bytes_are_bytes w n) h

pub line_is_bytes : (l : Line) → FitLine l → Bytes (line_bytes l)
line_is_bytes (field f) h =
    let n = h.5 in
    let last : List ℕ = f.type ∷ (f.presence ∷ f.argument) in
    let back = number_front 2 f.since last (h.3, (h.4, h.6)) in
    let more = number_front 2 f.offset (be_bytes 2 f.since ++ last) back in
    (omega arith, (omega arith, number_front 4 f.tag (be_bytes 2 f.offset ++ (be_bytes 2 f.since ++ last)) more))
line_is_bytes (group tag size) h = (omega arith, (omega arith, number_front 4 tag (be_bytes 2 size) (be_bytes_are_bytes 2 size)))
line_is_bytes end h = (omega arith, (omega arith, tt))
line_is_bytes (part d) h =
    let since = number_front 2 d.since (d.longest ∷ []) (h.2, tt) in
    (omega arith, (omega arith, number_front 4 d.tag (be_bytes 2 d.since ++ (d.longest ∷ [])) since))
