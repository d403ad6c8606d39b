-- The lines of a template: bytes cut into lines. Assumes nothing.
use Rattle.std.specs.Prelude.{ℕ, zero, suc, ◌+◌, cond, ◌&&◌, List, [], ◌∷◌, length, take, drop, Some, None, Option, ◌==◌, nat_le, slice_index}
use Rattle.wire.specs.Numbers.{be_value}
use Rattle.schema.specs.Structure.{Field, Data}

-- a line by its sort: 1 a field, 2 a group with its tag and the length of an entry, 3 the end of a group, 4 a data
pub data Line : Type 0 where
  field : Field → Line
  group : ℕ → ℕ → Line
  end : Line
  part : Data → Line

-- how many bytes a line has
abbrev pub line_size : Line → ℕ
line_size (field f) = 12 + length f.argument
line_size (group tag size) = 8
line_size end = 2
line_size (part d) = 9

-- the big-endian numbers of two and of four bytes at a place
abbrev pub number_2 : List ℕ → ℕ → ℕ
number_2 s p = be_value (take 2 (drop p s))

abbrev pub number_4 : List ℕ → ℕ → ℕ
number_4 s p = be_value (take 4 (drop p s))

-- what a line's bytes say, by its sort

abbrev pub field_in : List ℕ → Field
field_in l = record { tag = number_4 l 2; offset = number_2 l 6; since = number_2 l 8; type = slice_index l 10; presence = slice_index l 11; argument = drop 12 l }

abbrev pub data_in : List ℕ → Data
data_in l = record { tag = number_4 l 2; since = number_2 l 6; longest = slice_index l 8; prefix = 1 }

-- the line that n bytes of a sort are, if that sort can have n bytes
abbrev pub line_of : ℕ → ℕ → List ℕ → Option Line
line_of n sort l =
    cond (sort == 1) (cond (nat_le 12 n) (Some (field (field_in l))) None)
    (cond (sort == 2) (cond (n == 8) (Some (group (number_4 l 2) (number_2 l 6))) None)
    (cond (sort == 3) (cond (n == 2) (Some end) None)
    (cond (sort == 4) (cond (n == 9) (Some (part (data_in l))) None)
    None)))

-- the line that bytes begin with: its first byte is its length, its second its sort
abbrev pub first_line : List ℕ → Option Line
first_line s =
    cond (nat_le 2 (length s) && nat_le (slice_index s 0) (length s))
    (line_of (slice_index s 0) (slice_index s 1) (take (slice_index s 0) s))
    None

abbrev pub onward : {X : Type 0} → Option X → (X → List (Option X)) → List (Option X)
onward None go = None ∷ []
onward (Some x) go = Some x ∷ go x

-- the lines of bytes, one after the other; None, and nothing behind it, where what follows is no line
abbrev pub lines_from : ℕ → List ℕ → List (Option Line)
lines_from zero s = []
lines_from (suc n) [] = []
lines_from (suc n) (b ∷ s) = onward (first_line (b ∷ s)) (λ l. lines_from n (drop (line_size l) (b ∷ s)))

unfoldable pub lines : List ℕ → List (Option Line)
lines s = lines_from (length s) s

-- those in front of the first that is missing
abbrev pub there : {X : Type 0} → List (Option X) → List X
there [] = []
there (None ∷ xs) = []
there (Some x ∷ xs) = x ∷ there xs
