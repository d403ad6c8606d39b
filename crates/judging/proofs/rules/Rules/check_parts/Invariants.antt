use Rattle.std.proofs.Common.{◌≡◌, ◌+◌, map, length}
use Rattle.message.specs.Frames.{parts_verdict}
use Rattle.message.specs.Messages.{data_view}
use Rattle.lines.specs.Walks.{seen_parts_left}
use Rattle.judging.specs.Steps.{parts_seen}
use Rattle.judging.proofs.rules.Rules.check_parts.Given as goal

-- what is left to check gives what the whole gives, and the place stays with the bytes
abbrev pub invariant-loop-part : goal.invariant-loop-part
invariant-loop-part g l =
    (l.at + length l.rest ≡ l.place + length l.bytes)
    × (parts_verdict l.self.newer (map data_view (seen_parts_left l.part-iterator)) l.at l.rest ≡ parts_verdict l.self.newer (parts_seen l.self.version l.lines) l.place l.bytes)
