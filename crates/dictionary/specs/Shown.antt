-- What the lines of the code say. Assumes nothing.
use Rattle.std.specs.Prelude.{ℕ, Option}
use Rattle.std.specs.Option.{option_map}
use Rattle.dictionary.specs.declared.line.FieldLine.{FieldLine}
use Rattle.dictionary.specs.declared.line.Line.{Line as CodeLine}
use Rattle.dictionary.specs.declared.line.Line.TheVariants as code
use Rattle.dictionary.specs.declared.section.Section.{Section as CodeSection}
use Rattle.schema.specs.Sections.{Section}
use Rattle.schema.specs.Structure.{Field}
use Rattle.schema.specs.Lines.{Line, field, group, end, part}

abbrev pub shown_field : FieldLine → Field
shown_field f = record { tag = f.tag; offset = f.offset; since = f.since; type = f.number; presence = f.presence; argument = f.argument.now }

abbrev pub shown_line : CodeLine → Line
shown_line (code.Field f) = field (shown_field f)
shown_line (code.Group tag size) = group tag size
shown_line code.End = end
shown_line (code.Data tag since longest) = part (record { tag = tag; since = since; longest = longest; prefix = 1 })

abbrev pub shown_first : Option CodeLine → Option Line
shown_first o = option_map shown_line o

-- the tag that a line brings, 0 where it brings none
abbrev pub tag_of : Line → ℕ
tag_of (field f) = f.tag
tag_of (group tag size) = tag
tag_of end = 0
tag_of (part d) = d.tag

abbrev pub shown_section : CodeSection → Section
shown_section t = record { number = t.number; since = t.since; size = t.size; body = t.body.now }

abbrev pub shown_first_section : Option CodeSection → Option Section
shown_first_section o = option_map shown_section o
