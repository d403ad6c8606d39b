use Rattle.std.proofs.Common.{rules}
use Rattle.dictionary.specs.Shown.{shown_field}
use Rattle.lines.specs.Walks.{GivesSeenField, seen_fields_left, fields_left}
use Rattle.edition.specs.Same.{same_lists, same_field}
use Rattle.edition.proofs.SideBySide.{by_bytes}
use Rattle.edition.proofs.fields.same_fields.Goals as goal

pub returns : goal.returns
returns c =
    let e = c.eq_by.ensures (λ w u. same_lists same_field (seen_fields_left w) (fields_left u)) (by_bytes GivesSeenField _ shown_field _ seen_fields_left _ shown_field _ fields_left _ c.of.result same_field (λ w w' o e. e.0) (λ a b r q. q)) in
    search (rules, e)
