use Rattle.std.proofs.Common.{map, rules}
use Rattle.schema.specs.Seen.{seen_group}
use Rattle.lines.specs.Walks.{GivesGroup, group_at, groups_left}
use Rattle.edition.specs.Same.{same_lists, same_group}
use Rattle.edition.proofs.SideBySide.{first, first_by, side_by_side}
use Rattle.edition.proofs.groups.same_groups.Goals as goal

pub returns : goal.returns
returns c =
    let v = seen_group c.args.v in
    let e = c.eq_by.ensures (λ w u. same_lists same_group (map v (groups_left w)) (groups_left u))
    (side_by_side GivesGroup GivesGroup _ c.of.result (λ a. v (group_at a)) group_at (λ w. map v (groups_left w)) groups_left same_group
    (λ before w w' o y e. first_by v _ group_at _ groups_left w w' o e.0)
    (λ u u' o e. first _ group_at _ groups_left u u' o e.0)
    (λ a b r q. search (rules, q)))
    in
    search (rules, e)
