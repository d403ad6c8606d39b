use Rattle.std.proofs.Common.{◌≡◌, eqb, sym, ap, ◌∙◌, rules, tests}
use Rattle.std.specs.List.{find}
use Rattle.std.specs.Option.{option_map}
use Rattle.std.proofs.lemmas.Iterator.Search.{find_from_yields_List}
use Rattle.schema.specs.Structure.{Field}
use Rattle.schema.specs.Seen.{seen_fields}
use Rattle.dictionary.specs.Shown.{shown_field}
use Rattle.lines.specs.Held.{fields_in}
use Rattle.places.proofs.Finding.{seen_listed, placed, first_placed}
use Rattle.places.proofs.fields.field_at.Goals as goal

pub returns-in_err-field : goal.returns-in_err-field
returns-in_err-field c =
    let has = λ (f : Field). eqb f.tag c.args.tag in
    let found : option_map shown_field c.find.result ≡ find has (seen_fields c.args.u (fields_in c.args.lines.now)) = find_from_yields_List has _ _ _ c.find.ensures.ran (seen_listed c.of.result) (λ x b q k. search (rules, tests)) ∙ (λ i. find has (seen_fields (c.of.ensures.version i) (fields_in (c.of.ensures.bytes i)))) in
    let at = first_placed c.args.base c.args.tag (seen_fields c.args.u (fields_in c.args.lines.now)) ∙ ap (placed c.args.base c.args.tag) (sym found) in
    search (rules, at)

pub returns : goal.returns
returns c =
    let has = λ (f : Field). eqb f.tag c.args.tag in
    let found : option_map shown_field c.find.result ≡ find has (seen_fields c.args.u (fields_in c.args.lines.now)) = find_from_yields_List has _ _ _ c.find.ensures.ran (seen_listed c.of.result) (λ x b q k. search (rules, tests)) ∙ (λ i. find has (seen_fields (c.of.ensures.version i) (fields_in (c.of.ensures.bytes i)))) in
    let at = first_placed c.args.base c.args.tag (seen_fields c.args.u (fields_in c.args.lines.now)) ∙ ap (placed c.args.base c.args.tag) (sym found) in
    search (rules, at)
