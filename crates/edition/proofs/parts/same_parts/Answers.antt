use Rattle.std.proofs.Common.{rules}
use Rattle.lines.specs.Walks.{GivesSeenPart, data_at, seen_parts_left, parts_left}
use Rattle.edition.specs.Same.{same_lists, same_data}
use Rattle.edition.proofs.SideBySide.{by_bytes}
use Rattle.edition.proofs.parts.same_parts.Goals as goal

pub returns : goal.returns
returns c =
    let e = c.eq_by.ensures (λ w u. same_lists same_data (seen_parts_left w) (parts_left u)) (by_bytes GivesSeenPart _ data_at _ seen_parts_left _ data_at _ parts_left _ c.of.result same_data (λ w w' o e. e.0) (λ a b r q. q)) in
    search (rules, e)
