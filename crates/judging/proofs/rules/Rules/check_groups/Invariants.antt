use Rattle.std.proofs.Common.{◌≡◌, ◌+◌, length}
use Rattle.lines.specs.Walks.{groups_left}
use Rattle.judging.specs.Steps.{groups_seen, groups_step}
use Rattle.judging.proofs.Groups.{Left, views}
use Rattle.judging.proofs.rules.Rules.check_groups.Given as goal

-- what is left to check gives what the whole gives, and the place stays with the bytes
abbrev pub invariant-loop-group : goal.invariant-loop-group
invariant-loop-group g l =
    let known = g.L.TypeLibrary.known l.self.library.now in
    (l.passed + length l.rest ≡ length l.bytes)
    × Left l.passed (groups_step l.self.closed l.self.newer (views known l.self.version l.self.closed l.self.newer (groups_left l.group-iterator)) (l.place + l.passed) l.rest) (groups_step l.self.closed l.self.newer (groups_seen known l.self.version l.lines) l.place l.bytes)
