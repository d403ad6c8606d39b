use Rattle.std.proofs.Common.{eqb, ap, ◌∙◌, rules, tests}
use Rattle.std.specs.List.{find}
use Rattle.std.proofs.lemmas.Iterator.Search.{find_from_yields_List}
use Rattle.schema.specs.Structure.{Field}
use Rattle.lines.specs.Held.{fields_in}
use Rattle.lines.proofs.Listed.{fields_listed}
use Rattle.frame.proofs.held.find_field.Goals as goal

pub returns : goal.returns
returns c =
    let has = λ (f : Field). eqb f.tag c.args.tag in
    find_from_yields_List has _ _ _ c.find.ensures.ran (fields_listed c.of.result) (λ x b q k. search (rules, tests))
    ∙ ap (λ s. find has (fields_in s)) c.of.ensures
