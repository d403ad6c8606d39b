use Rattle.std.proofs.Common.{Ok, Err, Option, Result, sym, ap, ◌∙◌}
use Rattle.std.specs.Option.{option_map}
use Rattle.dictionary.specs.declared.section.Section.{Section as CodeSection}
use Rattle.message.specs.Messages.{stated_version}
use Rattle.std.proofs.lemmas.Result.{err_from_is_err_and}
use Rattle.wire.specs.declared.refusal.Refusal.{Refusal}
use Rattle.wire.specs.Refusals.{bind}
use Rattle.schema.specs.Reading.{template_of}
use Rattle.schema.specs.Sections.{Section}
use Rattle.dictionary.specs.Shown.{shown_section}
use Rattle.message.specs.Spots.{Spot, template_spot}
use Rattle.frame.specs.Holding.{shown_holding}
use Rattle.frame.specs.Templates.{shown_template}
use Rattle.frame.proofs.Spots.{spot_by, frame_spotted, none_there}
use Rattle.frame.proofs.accepted.Frame.held.Goals as goal

pub returns-in_err-template : goal.returns-in_err-template
returns-in_err-template g c =
    let known = g.L.TypeLibrary.known c.args.library.now in
    let s = c.args.self.now.dictionary.now in
    let bs = c.args.self.now.bytes.now in
    let by = spot_by (stated_version bs) bs c.args.group c.args.entry c.args.tag in
    let refused : Refusal → Result Spot Refusal = λ e. Err e in
    let p = err_from_is_err_and c.from_residual.result c.from_residual.ensures.1 in
    ap shown_holding p.1
    ∙ ap refused p.2
    ∙ ap (λ (v : Result (Option Section) Refusal). bind v by) (sym (ap shown_template c.in_err-template.was) ∙ c.template.ensures.value)
    ∙ sym (frame_spotted known s bs c.args.group c.args.entry c.args.tag)

pub returns-in_err-section : goal.returns-in_err-section
returns-in_err-section g c =
    let known = g.L.TypeLibrary.known c.args.library.now in
    let s = c.args.self.now.dictionary.now in
    let bs = c.args.self.now.bytes.now in
    let by = spot_by (stated_version bs) bs c.args.group c.args.entry c.args.tag in
    let refused : Refusal → Result Spot Refusal = λ e. Err e in
    let told : Option CodeSection → Result (Option Section) Refusal = λ o. Ok (option_map shown_section o) in
    let p = err_from_is_err_and c.from_residual-in_err-section.result c.from_residual-in_err-section.ensures.1 in
    let none = none_there c.in_ok-template.field-0 c.not_found.result _ (sym c.ok_or.ensures.value ∙ c.in_err-section.was) in
    ap shown_holding p.1
    ∙ ap refused (p.2 ∙ sym none.1)
    ∙ c.not_found.ensures
    ∙ ap (λ (v : Result (Option Section) Refusal). bind v by) (ap told (sym none.0) ∙ c.in_ok-template.ensures.value)
    ∙ sym (frame_spotted known s bs c.args.group c.args.entry c.args.tag)

pub returns : goal.returns
returns g c =
    let known = g.L.TypeLibrary.known c.args.library.now in
    let s = c.args.self.now.dictionary.now in
    let bs = c.args.self.now.bytes.now in
    let by = spot_by (stated_version bs) bs c.args.group c.args.entry c.args.tag in
    let told : Option CodeSection → Result (Option Section) Refusal = λ o. Ok (option_map shown_section o) in
    c.in_template.ensures
    ∙ ap (λ u. template_spot u bs (template_of (shown_section c.in_ok-section.section)) c.args.group c.args.entry c.args.tag) c.version.ensures
    ∙ ap (λ (v : Result (Option Section) Refusal). bind v by) (ap told (sym c.in_ok-section.ensures.ok_part) ∙ c.in_ok-template.ensures.value)
    ∙ sym (frame_spotted known s bs c.args.group c.args.entry c.args.tag)
