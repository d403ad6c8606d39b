use Rattle.std.proofs.Common.{rules}
use Rattle.schema.specs.Seen.{seen_template}
use Rattle.lines.specs.Walks.{GivesSeenTemplate, GivesTemplate, template_at, seen_templates_left, templates_left}
use Rattle.edition.specs.Same.{same_lists, same_template}
use Rattle.edition.proofs.SideBySide.{first, seen_first, side_by_side}
use Rattle.edition.proofs.templates.same_templates.Goals as goal

pub returns : goal.returns
returns c =
    let e = c.eq_by.ensures (λ w u. same_lists same_template (seen_templates_left w) (templates_left u))
    (side_by_side GivesSeenTemplate GivesTemplate _ c.of.result (λ a. seen_template c.args.v (template_at a)) template_at seen_templates_left templates_left same_template
    (λ before w w' o y e. seen_first c.args.v before c.of.result w w' o c.of.ensures.version y e)
    (λ u u' o e. first _ template_at _ templates_left u u' o e)
    (λ a b r q. search (rules, q)))
    in
    search (rules, e)
