use Rattle.std.proofs.Common.{Ok, Err, Option, Result, sym, ap, ◌∙◌}
use Rattle.std.specs.Option.{option_map}
use Rattle.std.proofs.lemmas.Result.{err_from_is_err_and}
use Rattle.wire.specs.declared.refusal.Refusal.{Refusal}
use Rattle.schema.specs.Structure.{Field}
use Rattle.dictionary.specs.Shown.{shown_field}
use Rattle.message.specs.Spots.{Spot, spot_or}
use Rattle.lines.specs.Held.{fields_in}
use Rattle.frame.specs.Holding.{spot_of_field, shown_holding}
use Rattle.frame.proofs.Spots.{field_spotted, none_there}
use Rattle.frame.proofs.held.Asked.in_block.Goals as goal

pub returns-in_err-f : goal.returns-in_err-f
returns-in_err-f c =
    let lies = spot_of_field c.args.self.version c.args.base in
    let refused : Refusal → Result Spot Refusal = λ e. Err e in
    let p = err_from_is_err_and c.from_residual.result c.from_residual.ensures.1 in
    let none = none_there c.find_field.result c.not_found.result _ (sym c.ok_or.ensures.value ∙ c.in_err-f.was) in
    ap shown_holding p.1
    ∙ ap refused (p.2 ∙ sym none.1)
    ∙ c.not_found.ensures
    ∙ ap (λ (o : Option Field). spot_or (option_map lies o) c.args.self.tag) (ap (option_map shown_field) (sym none.0) ∙ c.find_field.ensures)
    ∙ ap (λ o. spot_or o c.args.self.tag) (field_spotted c.args.self.version c.args.self.bytes.now c.args.base (fields_in c.args.lines.now) c.args.self.tag)

pub returns : goal.returns
returns c =
    let lies = spot_of_field c.args.self.version c.args.base in
    let told : Spot → Result Spot Refusal = λ x. Ok x in
    ap told c.field.ensures
    ∙ ap (λ (o : Option Field). spot_or (option_map lies o) c.args.self.tag) (ap (option_map shown_field) (sym c.in_ok-f.ensures.ok_part) ∙ c.find_field.ensures)
    ∙ ap (λ o. spot_or o c.args.self.tag) (field_spotted c.args.self.version c.args.self.bytes.now c.args.base (fields_in c.args.lines.now) c.args.self.tag)
