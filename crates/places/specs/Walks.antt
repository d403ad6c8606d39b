-- What the walk over the groups of a frame hands out. Assumes nothing.
use Rattle.std.specs.Prelude.{◌≡◌, ℕ, ◌+◌, ◌*◌, cond, Some, None, Option, Ok, Result, ◌==◌}
use Rattle.wire.specs.declared.refusal.Refusal.{Refusal}
use Rattle.calls.specs.Changes.{lacking}
use Rattle.lines.specs.Walks.{groups_left}
use Rattle.places.specs.declared.place.GroupPlace.{GroupPlace}
use Rattle.places.specs.declared.groups.GroupPlaces.{GroupPlaces}
use Rattle.places.specs.Places.{PlacedGroup, group_at, behind_groups}
use Rattle.places.specs.Shown.{shown_group}

-- the first group with the tag, of those that are left
abbrev pub group_left : GroupPlaces → ℕ → Result PlacedGroup Refusal
group_left w tag = group_at w.version w.bytes.now w.place (groups_left w.groups) tag

-- the place behind those that are left
abbrev pub behind_left : GroupPlaces → ℕ
behind_left w = behind_groups w.version w.bytes.now w.place (groups_left w.groups)

-- a step gives the first of those that are left, and leaves the others behind it; or None at the place behind them all, where none is left
abbrev pub GivesGroupPlace : GroupPlaces → Option GroupPlace → GroupPlaces → Type 0
GivesGroupPlace w None w' = ((tag : ℕ) → group_left w tag ≡ lacking tag) × (behind_left w ≡ w.place) × (w'.place ≡ w.place)
GivesGroupPlace w (Some g) w' =
    ((tag : ℕ) → group_left w tag ≡ cond (g.tag == tag) (Ok (shown_group w.version g)) (group_left w' tag))
    × (behind_left w' ≡ behind_left w)
    × (w'.version ≡ w.version)
    × (w'.place ≡ g.place + (3 + g.count * g.size))
