use Rattle.std.proofs.Common.{◌≡◌, ◌≤◌, map}
use Rattle.message.specs.Blocks.{fields_verdict}
use Rattle.message.specs.Messages.{slot_of}
use Rattle.lines.specs.Walks.{seen_fields_left}
use Rattle.judging.specs.Steps.{slots_from}
use Rattle.judging.proofs.rules.Rules.check_fields.Given as goal

-- what is left to check gives what the whole gives
abbrev pub invariant-loop-f : goal.invariant-loop-f
invariant-loop-f g l =
    let known = g.L.TypeLibrary.known l.self.library.now in
    (l.at ≤ 65555)
    × (fields_verdict l.self.closed l.base l.at (map (slot_of known) (seen_fields_left l.f-iterator)) l.size l.rest ≡ fields_verdict l.self.closed l.base 0 (slots_from known l.self.version l.fn.lines) l.size l.fn.bytes)
