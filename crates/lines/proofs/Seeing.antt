-- The field that lines begin with, as seen at a version, and those behind it.
use Rattle.std.proofs.Common.{◌≡◌, ℕ, ◌+◌, ◌-◌, ◌≤◌, Bool, true, false, cond, nat_le, List, [], ◌∷◌, length, drop, Some, None, Option, sym, refl, ap, ◌∙◌, arith, length-drop}
use Rattle.schema.specs.Structure.{Field}
use Rattle.schema.specs.Lines.{Line, field, group, end, part, line_size, first_line, lines, onward, there}
use Rattle.schema.specs.Reading.{fields_of}
use Rattle.schema.specs.Seen.{seen_fields}
use Rattle.schema.proofs.LinePieces.{first_line_size, lines_none, lines_step}
use Rattle.dictionary.specs.Seen.{seen_first}
use Rattle.lines.specs.Held.{fields_in}

pub seen_told : (version : ℕ) (o : Option Line) (f : Field) → Some f ≡ seen_first version o → (o ≡ Some (field f)) × (nat_le f.since version ≡ true)
seen_told version None f e = let z : ◌≡◌ {A = ℕ} 0 1 = cc in absurd (omega arith)
seen_told version (Some (field g)) f e = by_test (nat_le g.since version) refl e
  where
    by_test : (b : Bool) → nat_le g.since version ≡ b → Some f ≡ cond b (Some g) None → (◌≡◌ {A = Option Line} (Some (field g)) (Some (field f))) × (nat_le f.since version ≡ true)
    by_test true t h =
        let same : g ≡ f = cc in
        (ap (λ x. Some (field x)) same, ap (λ x. nat_le x.since version) (sym same) ∙ t)
    by_test false t h = let z : ◌≡◌ {A = ℕ} 0 1 = cc in absurd (omega arith)
seen_told version (Some (group tag size)) f e = let z : ◌≡◌ {A = ℕ} 0 1 = cc in absurd (omega arith)
seen_told version (Some end) f e = let z : ◌≡◌ {A = ℕ} 0 1 = cc in absurd (omega arith)
seen_told version (Some (part d)) f e = let z : ◌≡◌ {A = ℕ} 0 1 = cc in absurd (omega arith)

-- the bytes of a field that is seen lie within the lines
pub seen_fits : (version : ℕ) (s : List ℕ) (f : Field) → Some f ≡ seen_first version (first_line s) → 12 + length f.argument ≤ length s
seen_fits version s f e =
    let t = seen_told version (first_line s) f e in
    let size = first_line_size s (field f) t.0 in
    let a = size.0 in
    let b = size.2 in
    omega arith

-- a field that is seen, and those behind it
pub seen_here : (version : ℕ) (s : List ℕ) (f : Field) → Some f ≡ seen_first version (first_line s) → (seen_fields version (fields_in s) ≡ f ∷ seen_fields version (fields_in (drop (12 + length f.argument) s))) × (length (drop (12 + length f.argument) s) + 12 ≤ length s)
seen_here version s f e =
    let t = seen_told version (first_line s) f e in
    let size = first_line_size s (field f) t.0 in
    let two = size.3 in
    let fits = seen_fits version s f e in
    let long : length (drop (12 + length f.argument) s) ≡ length s - (12 + length f.argument) = length-drop (12 + length f.argument) s in
    let here : lines s ≡ Some (field f) ∷ lines (drop (12 + length f.argument) s) =
    lines_step s (omega arith) ∙ ap (λ o. onward o (λ l. lines (drop (line_size l) s))) t.0 in (
      ap (λ ls. seen_fields version (fields_of (there ls))) here
          ∙ ap (λ b. cond b (f ∷ seen_fields version (fields_in (drop (12 + length f.argument) s))) []) t.1,
      omega arith,
    )

-- the same of the bytes that are left when the field is cut off
pub seen_on : (version : ℕ) (s rest : List ℕ) (f : Field) (n : ℕ) → Some f ≡ seen_first version (first_line s) → n ≡ 12 + length f.argument → rest ≡ drop n s → (seen_fields version (fields_in s) ≡ f ∷ seen_fields version (fields_in rest)) × (length rest + 12 ≤ length s)
seen_on version s rest f n e k r =
    let is : rest ≡ drop (12 + length f.argument) s = r ∙ ap (λ m. drop m s) k in
    let h = seen_here version s f e in
    let same = ap length is in
    let long = h.1 in
    (h.0 ∙ ap (λ t. f ∷ seen_fields version (fields_in t)) (sym is), omega arith)

none_first : (version : ℕ) (o : Option Line) (below : Line → List (Option Line)) → None ≡ seen_first version o → seen_fields version (fields_of (there (onward o below))) ≡ []
none_first version None below e = refl
none_first version (Some (field g)) below e = by_test (nat_le g.since version) e
  where
    by_test : (b : Bool) → None ≡ cond b (Some g) None → cond b (g ∷ seen_fields version (fields_of (there (below (field g))))) [] ≡ []
    by_test true h = let z : ◌≡◌ {A = ℕ} 0 1 = cc in absurd (omega arith)
    by_test false h = refl
none_first version (Some (group tag size)) below e = refl
none_first version (Some end) below e = refl
none_first version (Some (part d)) below e = refl

-- no field is seen any more
pub seen_no_more : (version : ℕ) (s : List ℕ) → None ≡ seen_first version (first_line s) → seen_fields version (fields_in s) ≡ []
seen_no_more version [] e = ap (λ ls. seen_fields version (fields_of (there ls))) lines_none
seen_no_more version (b ∷ s) e =
    ap (λ ls. seen_fields version (fields_of (there ls))) (lines_step (b ∷ s) (omega arith))
    ∙ none_first version (first_line (b ∷ s)) (λ l. lines (drop (line_size l) (b ∷ s))) e
