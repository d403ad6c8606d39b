-- The template of a frame, once its types and geometry are checked. Assumes nothing.
use Rattle.std.specs.Prelude.{ℕ, ◌≤◌, List, length, Some, None, Ok, Err, Option, Result}
use Rattle.std.specs.Option.{option_map}
use Rattle.wire.specs.declared.refusal.Refusal.{Refusal}
use Rattle.wire.specs.Refusals.{bind}
use Rattle.types.specs.Kinds.{Known}
use Rattle.schema.specs.Geometry.{section_geometry}
use Rattle.schema.specs.Reading.{version_of, sections_of}
use Rattle.schema.specs.Sections.{Section}
use Rattle.schema.specs.Finding.{PlacedSection, section_at}
use Rattle.dictionary.specs.declared.section.Section.{Section as CodeSection}
use Rattle.dictionary.specs.Shown.{shown_section}
use Rattle.message.specs.Messages.{stated_template, stated_version}

abbrev pub shown_template : Result (Option CodeSection) Refusal → Result (Option Section) Refusal
shown_template (Ok o) = Ok (option_map shown_section o)
shown_template (Err e) = Err e

-- what was found, if its types and geometry pass
abbrev pub passed : Known → ℕ → Option PlacedSection → Result (Option Section) Refusal
passed known last None = Ok None
passed known last (Some t) = bind (section_geometry known last t.place t.section) (λ _. Ok (Some t.section))

-- under the dictionary that the bytes s are, the template that the bytes of a frame name
abbrev pub template_in : Known → List ℕ → List ℕ → Result (Option Section) Refusal
template_in known s bs = passed known (version_of s) (section_at (stated_template bs) (stated_version bs) 7 (sections_of s))

-- its lines have at most 65,535 bytes
abbrev pub Short : Result (Option CodeSection) Refusal → Type 0
Short (Ok (Some t)) = length t.body.now ≤ 65535
Short (Ok None) = Unit {0}
Short (Err e) = Unit {0}
