-- What a dictionary's bytes say, and the verdict on them. Assumes nothing.
use Rattle.std.specs.Prelude.{ℕ, Bool, ◌&&◌, List, [], ◌∷◌, map, length, drop, ◌==◌, nat_le, slice_index}
use Rattle.wire.specs.declared.refusal.Reason.TheVariants as reason
use Rattle.types.specs.Kinds.{Known}
use Rattle.schema.specs.Verdicts.{Verdict, rule, ◌then◌}
use Rattle.schema.specs.Structure.{Field, Group, Data, Template, Dictionary}
use Rattle.schema.specs.Lines.{Line, field, group, end, part, number_2, lines, there}
use Rattle.schema.specs.Sections.{Section, sections}
use Rattle.schema.specs.Shape.{sections_shape}
use Rattle.schema.specs.Geometry.{sections_geometry}

-- the fields that come first
abbrev pub fields_of : List Line → List Field
fields_of [] = []
fields_of (field f ∷ ls) = f ∷ fields_of ls
fields_of (group tag size ∷ ls) = []
fields_of (end ∷ ls) = []
fields_of (part d ∷ ls) = []

-- each group with the fields that follow its line
abbrev pub groups_of : List Line → List Group
groups_of [] = []
groups_of (field f ∷ ls) = groups_of ls
groups_of (group tag size ∷ ls) = record { tag = tag; block = record { size = size; fields = fields_of ls } } ∷ groups_of ls
groups_of (end ∷ ls) = groups_of ls
groups_of (part d ∷ ls) = groups_of ls

abbrev pub parts_of : List Line → List Data
parts_of [] = []
parts_of (field f ∷ ls) = parts_of ls
parts_of (group tag size ∷ ls) = parts_of ls
parts_of (end ∷ ls) = parts_of ls
parts_of (part d ∷ ls) = d ∷ parts_of ls

abbrev pub template_by : Section → List Line → Template
template_by t ls = record { number = t.number; since = t.since; root = record { size = t.size; fields = fields_of ls }; groups = groups_of ls; parts = parts_of ls }

abbrev pub template_of : Section → Template
template_of t = template_by t (there (lines t.body))

abbrev pub schema_of : List ℕ → ℕ
schema_of s = number_2 s 3

abbrev pub version_of : List ℕ → ℕ
version_of s = number_2 s 5

abbrev pub sections_of : List ℕ → List Section
sections_of s = there (sections (drop 7 s))

-- the dictionary that bytes are
abbrev pub dictionary_of : List ℕ → Dictionary
dictionary_of s = record { layout = slice_index s 0; schema = schema_of s; version = version_of s; templates = map template_of (sections_of s) }

-- 7 to 32,000 bytes
abbrev pub dictionary_length : ℕ → Bool
dictionary_length n = nat_le 7 n && nat_le n 32000

-- the first broken rule: size, layout, then shape and names of all, then types and geometry of all
abbrev pub verdict : Known → List ℕ → Verdict
verdict known s =
    rule (dictionary_length (length s) && number_2 s 1 == length s) reason.DictionarySize 0 0
    then rule (slice_index s 0 == 1) reason.Layout 0 0
    then sections_shape 0 7 (sections (drop 7 s))
    then sections_geometry known (version_of s) 7 (sections_of s)
