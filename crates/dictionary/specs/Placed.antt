-- What the walk over templates with their places hands out. Assumes nothing.
use Rattle.std.specs.Prelude.{◌≡◌, ℕ, ◌+◌, ◌≤◌, List, [], ◌∷◌, length, Some, None, Option}
use Rattle.schema.specs.Sections.{Section, section_size}
use Rattle.schema.specs.Finding.{PlacedSection}
use Rattle.dictionary.specs.declared.found.Found.{Found}
use Rattle.dictionary.specs.declared.placed.PlacedSections.{PlacedSections}
use Rattle.dictionary.specs.Walks.{sections_left}
use Rattle.dictionary.specs.Shown.{shown_section}

-- the templates with their places, the first at p
abbrev pub placed_from : ℕ → List Section → List PlacedSection
placed_from p [] = []
placed_from p (t ∷ ts) = record { place = p; section = t } ∷ placed_from (p + section_size t) ts

abbrev pub placed_left : PlacedSections → List PlacedSection
placed_left w = placed_from w.place (sections_left w.sections)

-- where the walk's bytes end
abbrev pub end_of : PlacedSections → ℕ
end_of w = w.place + length w.sections.rest.now

-- a template at its place, which lies within the bytes
abbrev pub GivesFound : PlacedSections → Option Found → PlacedSections → Type 0
GivesFound w None w' = (sections_left w.sections ≡ []) × (sections_left w'.sections ≡ []) × (end_of w' ≤ end_of w)
GivesFound w (Some x) w' = (x.place ≡ w.place) × (sections_left w.sections ≡ shown_section x.section ∷ sections_left w'.sections) × (w'.place ≡ w.place + section_size (shown_section x.section)) × (end_of w' ≤ end_of w)
