-- The field that lines begin with, as seen at a version. Assumes nothing.
use Rattle.std.specs.Prelude.{ℕ, cond, Some, None, Option, nat_le}
use Rattle.std.specs.Option.{option_map}
use Rattle.schema.specs.Structure.{Field}
use Rattle.schema.specs.Lines.{Line, field, group, end, part}
use Rattle.dictionary.specs.declared.line.FieldLine.{FieldLine}
use Rattle.dictionary.specs.Shown.{shown_field}

abbrev pub seen_first : ℕ → Option Line → Option Field
seen_first version None = None
seen_first version (Some (field f)) = cond (nat_le f.since version) (Some f) None
seen_first version (Some (group tag size)) = None
seen_first version (Some end) = None
seen_first version (Some (part d)) = None

abbrev pub shown_seen : Option FieldLine → Option Field
shown_seen o = option_map shown_field o
