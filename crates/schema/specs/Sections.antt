-- The templates of a dictionary: bytes cut into sections, a head of eight bytes and lines. Assumes nothing.
use Rattle.std.specs.Prelude.{ℕ, zero, suc, ◌+◌, cond, ◌&&◌, List, [], ◌∷◌, length, take, drop, Some, None, Option, nat_le}
use Rattle.schema.specs.Lines.{number_2, onward}

-- a template's head, and the bytes of its lines
pub record Section : Type 0 where
  pub number : ℕ
  pub since : ℕ
  pub size : ℕ
  pub body : List ℕ

abbrev pub section_in : List ℕ → Section
section_in s = record { number = number_2 s 2; since = number_2 s 4; size = number_2 s 6; body = drop 8 s }

-- the section that bytes begin with: its first two bytes are its length
abbrev pub first_section : List ℕ → Option Section
first_section s =
    cond (nat_le 8 (length s) && (nat_le 8 (number_2 s 0) && nat_le (number_2 s 0) (length s)))
    (Some (section_in (take (number_2 s 0) s)))
    None

abbrev pub section_size : Section → ℕ
section_size t = 8 + length t.body

-- the sections of bytes, one after the other; None, and nothing behind it, where what follows is no section
abbrev pub sections_from : ℕ → List ℕ → List (Option Section)
sections_from zero s = []
sections_from (suc n) [] = []
sections_from (suc n) (b ∷ s) = onward (first_section (b ∷ s)) (λ t. sections_from n (drop (section_size t) (b ∷ s)))

unfoldable pub sections : List ℕ → List (Option Section)
sections s = sections_from (length s) s
