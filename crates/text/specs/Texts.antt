-- Text of a fixed width. Assumes nothing.
use Rattle.std.specs.Prelude.{ℕ, ◌-◌, Bool, true, cond, not, ◌&&◌, List, [], ◌∷◌, ◌++◌, length, take, drop, replicate, Some, None, Option, ◌==◌, nat_le}
use Rattle.std.specs.List.{prefix_len}
use Rattle.types.specs.Meanings.{Meaning, absent, unsigned, signed, decimal, text, investor}
use Rattle.types.specs.Kinds.{Kind}

-- a character is a byte from 20 to 7E
abbrev pub character : ℕ → Bool
character b = nat_le 0x20 b && nat_le b 0x7E

-- nothing but characters: as many come first as there are bytes
abbrev pub only_characters : List ℕ → Bool
only_characters s = prefix_len character s == length s

-- nothing but zeros
abbrev pub only_zeros : List ℕ → Bool
only_zeros [] = true
only_zeros (b ∷ s) = b == 0 && only_zeros s

-- n zeros
abbrev pub zeros : ℕ → List ℕ
zeros n = replicate n 0

-- bytes of which the first n are the characters: these are the text, and none is absent
abbrev pub text_of : ℕ → List ℕ → Meaning
text_of n s = cond (n == 0) absent (text (take n s))

-- bytes of the width of which the first n are the characters, if only zeros follow
abbrev pub counted_text : ℕ → ℕ → List ℕ → Option Meaning
counted_text n w s = cond (length s == w && only_zeros (drop n s)) (Some (text_of n s)) None

-- bytes mean the characters that come first
abbrev pub text_means : ℕ → List ℕ → Option Meaning
text_means w s = counted_text (prefix_len character s) w s

-- a text that a field of this width can hold: at least one character, at most the width, and nothing else
abbrev pub holds : ℕ → List ℕ → Bool
holds w s = not (length s == 0) && (nat_le (length s) w && only_characters s)

-- the pattern of a text is its characters and then zeros up to the width
abbrev pub text_pattern : ℕ → Meaning → Option (List ℕ)
text_pattern w absent = Some (zeros w)
text_pattern w (unsigned n) = None
text_pattern w (signed z) = None
text_pattern w (decimal z n) = None
text_pattern w (text s) = cond (holds w s) (Some (s ++ zeros (w - length s))) None
text_pattern w (investor p d) = None

-- text of width w; a blank one is all zeros, which is absent
abbrev pub text_kind : ℕ → Kind
text_kind w = record { width = w; means = text_means w; pattern = text_pattern w; blank = zeros w; blank_means = absent }
