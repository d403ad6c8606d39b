-- What a template found by the code is. Assumes nothing.
use Rattle.std.specs.Prelude.{ℕ, ◌+◌, ◌≤◌, length, Some, None, Option}
use Rattle.std.specs.Option.{option_map}
use Rattle.dictionary.specs.declared.found.Found.{Found}
use Rattle.schema.specs.Finding.{PlacedSection}
use Rattle.dictionary.specs.Shown.{shown_section}

abbrev pub placed_section : Found → PlacedSection
placed_section f = record { place = f.place; section = shown_section f.section }

abbrev pub shown_found : Option Found → Option PlacedSection
shown_found o = option_map placed_section o

-- what is found lies within the dictionary's bytes
abbrev pub FoundWithin : Option Found → ℕ → Type 0
FoundWithin None all = Unit {0}
FoundWithin (Some f) all = f.place + 8 + length f.section.body.now ≤ all
