use Rattle.std.proofs.Common.{◌≡◌, sym, refl, ap, ◌∙◌, rules, tests}
use Rattle.schema.specs.Reading.{template_of}
use Rattle.dictionary.specs.Shown.{shown_section}
use Rattle.lines.specs.Held.{groups_in}
use Rattle.places.specs.Places.{group_at, group_place}
use Rattle.places.specs.Walks.{group_left}
use Rattle.places.proofs.Finding.{told, group_found}
use Rattle.places.proofs.template.group_place.Goals as goal

pub returns-clause-value : goal.returns-clause-value
returns-clause-value c =
    let tag = c.args.tag in
    let r = c.find.ensures.ran in
    let whole : group_left c.of.result tag ≡ group_place c.args.u c.args.bytes.now (template_of (shown_section c.args.section)) tag =
    λ i. group_at (c.of.ensures.version i) (c.of.ensures.bytes i) (c.of.ensures.first i) (groups_in (c.of.ensures.lines i)) tag in
    let found = group_found _ _ tag (λ x b q k. search (rules, tests)) r.0 c.of.result r.2.0 _ _ r.1 c.find.result refl r.2.1 r.2.2 r.3 r.4 in
    let at : group_place c.args.u c.args.bytes.now (template_of (shown_section c.args.section)) tag ≡ told tag c.find.result c.args.u = sym whole ∙ found ∙ ap (told tag c.find.result) c.of.ensures.version in
    search (rules, at)
