-- The template of a number in a dictionary's bytes, with its place. Assumes nothing.
use Rattle.std.specs.Prelude.{ℕ, ◌+◌, cond, ◌&&◌, List, [], ◌∷◌, Some, None, Option, ◌==◌, nat_le}
use Rattle.schema.specs.Sections.{Section, section_size}
use Rattle.schema.specs.Structure.{Template}
use Rattle.schema.specs.Reading.{template_of}
use Rattle.schema.specs.Seen.{seen_template}

-- a section and the place where it begins
pub record PlacedSection : Type 0 where
  pub place : ℕ
  pub section : Section

-- the first section of a number that is there at a version; the first of all begins at p
abbrev pub section_at : ℕ → ℕ → ℕ → List Section → Option PlacedSection
section_at number version p [] = None
section_at number version p (t ∷ ts) = cond (nat_le t.since version && t.number == number) (Some (record { place = p; section = t })) (section_at number version (p + section_size t) ts)

-- the template that a section is, as seen at a version
abbrev pub seen_of : ℕ → Option PlacedSection → Option Template
seen_of version None = None
seen_of version (Some t) = Some (seen_template version (template_of t.section))
