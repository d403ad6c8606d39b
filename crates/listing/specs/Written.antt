-- How a line is written. Assumes nothing.
use Rattle.std.specs.Prelude.{ℕ, List, [], ◌∷◌, ◌++◌, decimal}
use Rattle.wire.specs.Refusals.{number_of}
use Rattle.printing.specs.Written.{numbers, hex, written_value}
use Rattle.listing.specs.Lines.{Shown, dictionary, frame, root, entry, entries, content, refused, waiting}

-- a letter, a tag and a text
abbrev pub tagged : ℕ → ℕ → List ℕ → List ℕ
tagged letter tag text = letter ∷ 32 ∷ (decimal tag ++ (32 ∷ text))

-- a letter, and then the numbers of the line; of a field its tag and its value, of a data its tag and its bytes
abbrev pub written : Shown → List ℕ
written (dictionary e) = 68 ∷ numbers (e.place ∷ number_of e.reason ∷ [])
written (frame place length template version) = 70 ∷ numbers (place ∷ length ∷ template ∷ version ∷ [])
written (root tag m) = tagged 114 tag (written_value m)
written (entry tag m) = tagged 101 tag (written_value m)
written (entries tag count) = 103 ∷ numbers (tag ∷ count ∷ [])
written (content tag bytes) = tagged 100 tag (hex bytes)
written (refused place e) = 88 ∷ numbers (place ∷ number_of e.reason ∷ e.place ∷ e.tag ∷ [])
written (waiting place count) = 87 ∷ numbers (place ∷ count ∷ [])
