use Rattle.std.proofs.Common.{◌≡◌, nat_lt, ap, ◌∙◌, rules, tests}
use Rattle.std.specs.Option.{option_map}
use Rattle.std.specs.List.{find}
use Rattle.std.proofs.lemmas.Iterator.Search.{find_from_yields_List}
use Rattle.schema.specs.Structure.{Field}
use Rattle.dictionary.specs.Shown.{shown_field}
use Rattle.lines.specs.Held.{fields_in}
use Rattle.lines.proofs.Listed.{fields_listed, offset_or, first_newer, offset_told}
use Rattle.lines.proofs.fields.length_at.Goals as goal

pub returns : goal.returns
returns c =
    let newer = λ (f : Field). nat_lt c.args.v f.since in
    let found : option_map shown_field c.find.result ≡ find newer (fields_in c.args.lines.now) =
    find_from_yields_List newer _ _ _ c.find.ensures.ran (fields_listed c.of.result) (λ x b q k. search (rules, tests))
    ∙ ap (λ s. find newer (fields_in s)) c.of.ensures in
    let given : c.map_or.result ≡ offset_or c.args.size (option_map shown_field c.find.result) = offset_told c.find.result c.map_or.result c.args.size shown_field _ (λ x k. search (rules, tests)) c.map_or.ensures in
    given ∙ ap (offset_or c.args.size) found ∙ first_newer c.args.v c.args.size (fields_in c.args.lines.now)
