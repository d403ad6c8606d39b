use Rattle.std.proofs.Common.{◌≡◌, ◌+◌, ◌≤◌, length}
use Rattle.schema.specs.Lines.{there}
use Rattle.schema.specs.Sections.{sections}
use Rattle.schema.specs.Geometry.{sections_geometry}
use Rattle.dictionary.specs.Walks.{sections_left}
use Rattle.dictionary.proofs.geometry.Geometry.check_sections.Given as goal

-- what is left to check gives what the whole gives
abbrev pub invariant-loop-found : goal.invariant-loop-found
invariant-loop-found g l =
    let known = g.L.TypeLibrary.known l.self.library.now in
    (l.found-iterator.place + length l.found-iterator.sections.rest.now ≤ 7 + length l.templates)
    × (sections_geometry known l.self.version l.found-iterator.place (sections_left l.found-iterator.sections) ≡ sections_geometry known l.self.version 7 (there (sections l.templates)))
