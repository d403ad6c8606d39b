use Rattle.std.proofs.Common.{◌≡◌, ◌+◌, ◌≤◌, length}
use Rattle.schema.specs.Sections.{sections}
use Rattle.schema.specs.Shape.{sections_shape}
use Rattle.dictionary.proofs.section.check_sections.Given as goal

-- what is left to check gives what the whole gives
abbrev pub invariant-loop-section : goal.invariant-loop-section
invariant-loop-section l =
    (l.place + length l.sections.rest.now ≤ 7 + length l.templates)
    × (sections_shape l.least l.place (sections l.sections.rest.now) ≡ sections_shape 0 7 (sections l.templates))

abbrev pub decreases-loop-section : goal.decreases-loop-section
decreases-loop-section l = length l.sections.rest.now
