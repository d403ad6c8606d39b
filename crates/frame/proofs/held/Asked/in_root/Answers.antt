use Rattle.std.proofs.Common.{◌+◌, Ok, Option, Result, ap, ◌∙◌}
use Rattle.std.specs.Option.{option_map}
use Rattle.wire.specs.declared.refusal.Refusal.{Refusal}
use Rattle.schema.specs.Structure.{Field}
use Rattle.message.specs.Messages.{stated_root}
use Rattle.message.specs.Lookup.{groups_end}
use Rattle.message.specs.Spots.{Spot, spot_or, first_of, part_spot}
use Rattle.lines.specs.Held.{fields_in, groups_in, parts_in}
use Rattle.frame.specs.Holding.{spot_of_field}
use Rattle.frame.proofs.Spots.{field_spotted}
use Rattle.frame.proofs.held.Asked.in_root.Goals as goal

pub returns-in_default : goal.returns-in_default
returns-in_default c =
    let u = c.args.self.version in
    let tag = c.args.self.tag in
    let bs = c.args.self.bytes.now in
    let x = part_spot u bs (groups_end bs (12 + stated_root bs) (groups_in c.args.lines.now)) (parts_in c.args.lines.now) tag in
    c.in_parts.ensures
    ∙ ap (λ (o : Option Field). spot_or (first_of (option_map (spot_of_field u 12) o) x) tag) c.in_default.ensures
    ∙ ap (λ o. spot_or (first_of o x) tag) (field_spotted u bs 12 (fields_in c.args.lines.now) tag)

pub returns : goal.returns
returns c =
    let u = c.args.self.version in
    let tag = c.args.self.tag in
    let bs = c.args.self.bytes.now in
    let x = part_spot u bs (groups_end bs (12 + stated_root bs) (groups_in c.args.lines.now)) (parts_in c.args.lines.now) tag in
    let told : Spot → Result Spot Refusal = λ s. Ok s in
    ap told c.field.ensures
    ∙ ap (λ (o : Option Field). spot_or (first_of (option_map (spot_of_field u 12) o) x) tag) c.in-Some.ensures
    ∙ ap (λ o. spot_or (first_of o x) tag) (field_spotted u bs 12 (fields_in c.args.lines.now) tag)
