-- A dictionary written out as bytes. Assumes nothing.
use Rattle.std.specs.Prelude.{ℕ, ◌+◌, List, [], ◌∷◌, ◌++◌, map, length}
use Rattle.std.specs.List.{flat_map}
use Rattle.wire.specs.Numbers.{be_bytes}
use Rattle.schema.specs.Structure.{Group, Template, Dictionary}
use Rattle.schema.specs.Lines.{Line, field, group, end, part}

-- a line's bytes: its length, its sort, what it says
abbrev pub line_bytes : Line → List ℕ
line_bytes (field f) = (12 + length f.argument) ∷ (1 ∷ (be_bytes 4 f.tag ++ (be_bytes 2 f.offset ++ (be_bytes 2 f.since ++ (f.type ∷ (f.presence ∷ f.argument))))))
line_bytes (group tag size) = 8 ∷ (2 ∷ (be_bytes 4 tag ++ be_bytes 2 size))
line_bytes end = 2 ∷ (3 ∷ [])
line_bytes (part d) = 9 ∷ (4 ∷ (be_bytes 4 d.tag ++ (be_bytes 2 d.since ++ (d.longest ∷ []))))

abbrev pub lines_bytes : List Line → List ℕ
lines_bytes ls = flat_map line_bytes ls

-- a group's lines: its own, its fields', its end
abbrev pub group_lines : Group → List Line
group_lines g = group g.tag g.block.size ∷ (map field g.block.fields ++ (end ∷ []))

-- a template's lines: the root's fields, the groups, the data
abbrev pub template_lines : Template → List Line
template_lines t = map field t.root.fields ++ (flat_map group_lines t.groups ++ map part t.parts)

abbrev pub template_body : Template → List ℕ
template_body t = lines_bytes (template_lines t)

abbrev pub template_bytes : Template → List ℕ
template_bytes t = be_bytes 2 (8 + length (template_body t)) ++ (be_bytes 2 t.number ++ (be_bytes 2 t.since ++ (be_bytes 2 t.root.size ++ template_body t)))

abbrev pub templates_bytes : List Template → List ℕ
templates_bytes ts = flat_map template_bytes ts

abbrev pub dictionary_bytes : Dictionary → List ℕ
dictionary_bytes d = d.layout ∷ (be_bytes 2 (7 + length (templates_bytes d.templates)) ++ (be_bytes 2 d.schema ++ (be_bytes 2 d.version ++ templates_bytes d.templates)))
