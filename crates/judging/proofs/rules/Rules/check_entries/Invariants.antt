use Rattle.std.proofs.Common.{◌≡◌, ◌+◌, ◌-◌, length}
use Rattle.message.specs.Frames.{entries_verdict}
use Rattle.judging.specs.Steps.{block_at}
use Rattle.judging.proofs.rules.Rules.check_entries.Given as goal

-- what is left to check gives what the whole gives, and the place stays with the bytes
abbrev pub invariant-loop : goal.invariant-loop
invariant-loop g l =
    let block = block_at (g.L.TypeLibrary.known l.self.library.now) l.self.version l.group.size l.group.lines.now in
    (l.at + length l.rest ≡ l.place + length l.bytes)
    × (entries_verdict l.self.closed block l.stride l.group.tag (l.count - l.counter) l.at l.rest ≡ entries_verdict l.self.closed block l.stride l.group.tag l.count l.place l.bytes)
