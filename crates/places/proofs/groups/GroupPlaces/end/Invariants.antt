use Rattle.std.proofs.Common.{◌≡◌}
use Rattle.places.specs.Walks.{behind_left}
use Rattle.places.proofs.groups.GroupPlaces.end.Given as goal

-- what is left ends where the whole ends
abbrev pub invariant-loop-group : goal.invariant-loop-group
invariant-loop-group l = (behind_left l.group-iterator ≡ behind_left l.fn.self) × (l.end ≡ l.group-iterator.place)
