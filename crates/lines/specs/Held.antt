-- What bytes hold, one after the other. Assumes nothing.
use Rattle.std.specs.Prelude.{ℕ, List, map}
use Rattle.schema.specs.Structure.{Field, Group, Data, Template}
use Rattle.schema.specs.Lines.{Line, lines, there}
use Rattle.schema.specs.Sections.{sections}
use Rattle.schema.specs.Reading.{fields_of, groups_of, parts_of, template_of}

abbrev pub lines_in : List ℕ → List Line
lines_in s = there (lines s)

-- the fields of the block that lines begin with
abbrev pub fields_in : List ℕ → List Field
fields_in s = fields_of (lines_in s)

abbrev pub groups_in : List ℕ → List Group
groups_in s = groups_of (lines_in s)

abbrev pub parts_in : List ℕ → List Data
parts_in s = parts_of (lines_in s)

abbrev pub templates_in : List ℕ → List Template
templates_in s = map template_of (there (sections s))
