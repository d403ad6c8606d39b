use Rattle.std.proofs.Common.{◌≡◌, ◌+◌, ◌≤◌, length}
use Rattle.schema.specs.Lines.{lines, there}
use Rattle.dictionary.specs.Surveys.{gathered_from, nothing_gathered}
use Rattle.dictionary.specs.Walks.{lines_left}
use Rattle.dictionary.proofs.shape.survey_of.Given as goal

-- what is left to gather gives what the whole gives, and no count is above the bytes passed
abbrev pub invariant-loop-line : goal.invariant-loop-line
invariant-loop-line l =
    (l.at + length l.line-iterator.rest.now ≤ l.place + length l.before)
    × ((l.place + l.above.fields ≤ l.at) × (l.place + l.above.groups ≤ l.at) × (l.place + l.above.parts ≤ l.at))
    × (gathered_from l.sought l.above l.at (lines_left l.line-iterator) ≡ gathered_from l.sought nothing_gathered l.place (there (lines l.before)))
