use Rattle.std.proofs.Common.{◌≡◌, ◌+◌, ◌≤◌, length}
use Rattle.schema.specs.Lines.{lines, there}
use Rattle.schema.specs.Geometry.{lines_geometry}
use Rattle.dictionary.specs.Steps.{grounded}
use Rattle.dictionary.specs.Walks.{lines_left}
use Rattle.dictionary.proofs.geometry.Geometry.check_lines.Given as goal

-- what is left to check gives what the whole gives
abbrev pub invariant-loop-line : goal.invariant-loop-line
invariant-loop-line g l =
    let known = g.L.TypeLibrary.known l.self.library.now in
    (l.at + length l.line-iterator.rest.now ≤ l.place + length l.body)
    × (lines_geometry known l.self.version (grounded l.above) l.at (lines_left l.line-iterator) ≡ lines_geometry known l.self.version (grounded l.initial.above) l.place (there (lines l.body)))
