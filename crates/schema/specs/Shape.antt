-- Shape and names: what lines follow one another, and that numbers rise and tags differ. Assumes nothing.
use Rattle.std.specs.Prelude.{ℕ, suc, ◌+◌, Bool, true, false, not, ◌&&◌, ◌||◌, List, [], ◌∷◌, length, Some, None, Err, Option, ◌==◌, nat_le, nat_lt}
use Rattle.wire.specs.declared.refusal.Reason.TheVariants as reason
use Rattle.wire.specs.Refusals.{refusal}
use Rattle.schema.specs.Verdicts.{Verdict, fine, rule, ◌then◌}
use Rattle.schema.specs.Lines.{Line, field, group, end, part, line_size, lines}
use Rattle.schema.specs.Sections.{Section, section_size}

-- where among a template's lines a line stands: among the root's fields, inside the group whose line is at a place, behind a group, or among the data
pub data Stage : Type 0 where
  root : Stage
  inside : ℕ → Stage
  behind : Stage
  closing : Stage

-- the lines above a line, as far as the rules look at them: the stage, the tags of the root's fields, groups and data, the tags of the fields of the block that stands open, and how many groups and data there are
pub record Above : Type 0 where
  pub stage : Stage
  pub outer : List ℕ
  pub inner : List ℕ
  pub groups : ℕ
  pub parts : ℕ

abbrev pub nothing_above : Above
nothing_above = record { stage = root; outer = []; inner = []; groups = 0; parts = 0 }

-- root fields come first, then groups, then data; a group holds only fields, and ends
abbrev pub in_order : Stage → Line → Bool
in_order root (field f) = true
in_order root (group tag size) = true
in_order root end = false
in_order root (part d) = true
in_order (inside p) (field f) = true
in_order (inside p) (group tag size) = false
in_order (inside p) end = true
in_order (inside p) (part d) = false
in_order behind (field f) = false
in_order behind (group tag size) = true
in_order behind end = false
in_order behind (part d) = true
in_order closing (field f) = false
in_order closing (group tag size) = false
in_order closing end = false
in_order closing (part d) = true

abbrev pub member : ℕ → List ℕ → Bool
member t [] = false
member t (u ∷ us) = u == t || member t us

-- a tag is not 0 and not among those of its set
abbrev pub new_tag : ℕ → List ℕ → Bool
new_tag t tags = not (t == 0) && not (member t tags)

-- the tags of the set that a field's belongs to: a group's fields have their own
abbrev pub field_tags : Above → List ℕ
field_tags a = elim a.stage [ root ↦ a.outer | inside p ↦ a.inner | behind ↦ a.outer | closing ↦ a.outer ]

-- a new tag, and no 65th field, 9th group or 9th data
abbrev pub well_named : Above → Line → Bool
well_named a (field f) = new_tag f.tag (field_tags a) && nat_lt (length a.inner) 64
well_named a (group tag size) = new_tag tag a.outer && nat_lt a.groups 8
well_named a end = true
well_named a (part d) = new_tag d.tag a.outer && nat_lt a.parts 8

-- what is above the next line, behind a line at a place
abbrev pub past_field : Above → ℕ → Above
past_field a tag = elim a.stage [
  | root ↦ record { stage = root; outer = tag ∷ a.outer; inner = tag ∷ a.inner; groups = a.groups; parts = a.parts }
  | inside p ↦ record { stage = inside p; outer = a.outer; inner = tag ∷ a.inner; groups = a.groups; parts = a.parts }
  | behind ↦ a
  | closing ↦ a
]

abbrev pub past : Above → ℕ → Line → Above
past a place (field f) = past_field a f.tag
past a place (group tag size) = record { stage = inside place; outer = tag ∷ a.outer; inner = []; groups = suc a.groups; parts = a.parts }
past a place end = record { stage = behind; outer = a.outer; inner = []; groups = a.groups; parts = a.parts }
past a place (part d) = record { stage = closing; outer = d.tag ∷ a.outer; inner = []; groups = a.groups; parts = suc a.parts }

-- at a template's end no group stands open
abbrev pub ended : Stage → Verdict
ended root = fine
ended (inside p) = Err (refusal reason.LineShape p 0)
ended behind = fine
ended closing = fine

-- line by line: a line, in order, well named
abbrev pub lines_shape : Above → ℕ → List (Option Line) → Verdict
lines_shape a p [] = ended a.stage
lines_shape a p (None ∷ ls) = Err (refusal reason.LineShape p 0)
lines_shape a p (Some l ∷ ls) =
    rule (in_order a.stage l) reason.LineShape p 0
    then rule (well_named a l) reason.LineName p 0
    then lines_shape (past a p l) (p + line_size l) ls

-- template by template: a section, its number at least `least`, one more than the number before, and then its lines
abbrev pub sections_shape : ℕ → ℕ → List (Option Section) → Verdict
sections_shape least p [] = fine
sections_shape least p (None ∷ ts) = Err (refusal reason.LineShape p 0)
sections_shape least p (Some t ∷ ts) =
    rule (nat_le least t.number) reason.LineName p 0
    then lines_shape nothing_above (p + 8) (lines t.body)
    then sections_shape (suc t.number) (p + section_size t) ts
