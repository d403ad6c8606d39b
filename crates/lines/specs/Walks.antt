-- What the walks over bytes hand out, one after the other. Assumes nothing.
use Rattle.std.specs.Prelude.{◌≡◌, List, None, Some, Option}
use Rattle.schema.specs.Structure.{Field, Group, Data, Template}
use Rattle.schema.specs.Reading.{template_of}
use Rattle.schema.specs.Seen.{seen_fields, seen_parts, seen_template, seen}
use Rattle.dictionary.specs.declared.line.FieldLine.{FieldLine}
use Rattle.dictionary.specs.declared.section.Section.{Section}
use Rattle.dictionary.specs.Shown.{shown_field, shown_section}
use Rattle.dictionary.specs.Walks.{Gives}
use Rattle.lines.specs.Held.{fields_in, groups_in, parts_in, templates_in}
use Rattle.lines.specs.declared.fields.Fields.{Fields}
use Rattle.lines.specs.declared.fields.SeenFields.{SeenFields}
use Rattle.lines.specs.declared.groups.GroupLine.{GroupLine}
use Rattle.lines.specs.declared.groups.Groups.{Groups}
use Rattle.lines.specs.declared.parts.PartLine.{PartLine}
use Rattle.lines.specs.declared.parts.Parts.{Parts}
use Rattle.lines.specs.declared.parts.SeenParts.{SeenParts}
use Rattle.lines.specs.declared.templates.Templates.{Templates}
use Rattle.lines.specs.declared.templates.SeenTemplates.{SeenTemplates}

abbrev pub fields_left : Fields → List Field
fields_left w = fields_in w.rest.now

abbrev pub GivesField : Fields → Option FieldLine → Fields → Type 0
GivesField = Gives (λ _. 12) shown_field (λ w. w.rest.now) fields_left

-- those of them that are seen at the version
abbrev pub seen_fields_left : SeenFields → List Field
seen_fields_left w = seen_fields w.version (fields_left w.fields)

-- the version stays
abbrev pub GivesSeenField : SeenFields → Option FieldLine → SeenFields → Type 0
GivesSeenField w o w' = Gives (λ _. 12) shown_field (λ x. x.fields.rest.now) seen_fields_left w o w' × (w'.version ≡ w.version)

-- a group by its line and the lines that follow it
abbrev pub group_at : GroupLine → Group
group_at x = record { tag = x.tag; block = record { size = x.size; fields = fields_in x.lines.now } }

abbrev pub groups_left : Groups → List Group
groups_left w = groups_in w.lines.rest.now

-- the lines that follow a group's line are those in which the others are left
abbrev pub FollowsGroup : Option GroupLine → Groups → Type 0
FollowsGroup None w' = Unit {0}
FollowsGroup (Some x) w' = x.lines.now ≡ w'.lines.rest.now

abbrev pub GivesGroup : Groups → Option GroupLine → Groups → Type 0
GivesGroup w o w' = Gives (λ _. 8) group_at (λ x. x.lines.rest.now) groups_left w o w' × FollowsGroup o w'

abbrev pub data_at : PartLine → Data
data_at x = record { tag = x.tag; since = x.since; longest = x.longest; prefix = 1 }

abbrev pub parts_left : Parts → List Data
parts_left w = parts_in w.lines.rest.now

abbrev pub GivesPart : Parts → Option PartLine → Parts → Type 0
GivesPart = Gives (λ _. 9) data_at (λ w. w.lines.rest.now) parts_left

-- those of them that are seen at the version
abbrev pub seen_parts_left : SeenParts → List Data
seen_parts_left w = seen_parts w.version (parts_left w.parts)

-- the version stays
abbrev pub GivesSeenPart : SeenParts → Option PartLine → SeenParts → Type 0
GivesSeenPart w o w' = Gives (λ _. 9) data_at (λ x. x.parts.lines.rest.now) seen_parts_left w o w' × (w'.version ≡ w.version)

abbrev pub template_at : Section → Template
template_at x = template_of (shown_section x)

abbrev pub templates_left : Templates → List Template
templates_left w = templates_in w.sections.rest.now

abbrev pub GivesTemplate : Templates → Option Section → Templates → Type 0
GivesTemplate = Gives (λ _. 8) template_at (λ w. w.sections.rest.now) templates_left

-- those of them that are seen at the version, as they are seen at it
abbrev pub seen_templates_left : SeenTemplates → List Template
seen_templates_left w = seen w.version (templates_left w.templates)

-- the version stays
abbrev pub GivesSeenTemplate : SeenTemplates → Option Section → SeenTemplates → Type 0
GivesSeenTemplate w o w' = Gives (λ _. 8) (λ x. seen_template w.version (template_at x)) (λ x. x.templates.sections.rest.now) seen_templates_left w o w' × (w'.version ≡ w.version)
