use Rattle.std.proofs.Common.{◌+◌, ◌≤◌, List, Ok, Err, Option, Result, sym, refl, ap, ◌∙◌, arith, rules}
use Rattle.std.specs.Option.{option_map}
use Rattle.std.proofs.lemmas.Result.{err_from_is_err_and}
use Rattle.wire.specs.declared.refusal.Refusal.{Refusal}
use Rattle.wire.specs.Refusals.{bind}
use Rattle.schema.specs.Sections.{Section}
use Rattle.dictionary.specs.Shown.{shown_section}
use Rattle.message.specs.Messages.{stated_version}
use Rattle.message.specs.Walks.{Item}
use Rattle.frame.specs.Spots.{Spot, items_from}
use Rattle.frame.specs.Walked.{all_remaining}
use Rattle.frame.specs.Templates.{shown_template}
use Rattle.frame.proofs.Begun.{items_of, body_of, template_items, begun}
use Rattle.frame.proofs.accepted.Frame.begin.Goals as goal

pub returns-in_err-template : goal.returns-in_err-template
returns-in_err-template g c =
    let known = g.L.TypeLibrary.known c.args.library.now in
    let s = c.args.self.now.dictionary.now in
    let bs = c.args.self.now.bytes.now in
    let refused : Refusal → Result (List Item) Refusal = λ e. Err e in
    let p = err_from_is_err_and c.from_residual.result c.from_residual.ensures.1 in
    record {
      items =
          ap (all_remaining known) p.1
          ∙ ap refused p.2
          ∙ ap (λ (v : Result (Option Section) Refusal). bind v (items_of known (stated_version bs) bs)) (sym (ap shown_template c.in_err-template.was) ∙ c.template.ensures.value)
          ∙ sym (template_items known s bs);
      holds = rw p.1 tt;
    }

pub returns : goal.returns
returns g c =
    let known = g.L.TypeLibrary.known c.args.library.now in
    let s = c.args.self.now.dictionary.now in
    let bs = c.args.self.now.bytes.now in
    let small : c.stated_at.result ≤ 65535 = search rules in
    let left : Spot → Result (List Item) Refusal = λ a. Ok (items_from known bs a) in
    let body = body_of c.in_ok-template.field-0 c.map_or-body.result c.upto.result c.map_or-body.ensures (λ t q. search rules) c.upto.ensures c.in_ok-template.ensures.short in
    record {
      items =
          ap left c.start.ensures
          ∙ begun known s bs (option_map shown_section c.in_ok-template.field-0) c.version.result (12 + c.stated_at.result) c.map_or-body.result.now c.in_ok-template.ensures.value c.version.ensures (ap (λ n. 12 + n) c.stated_at.ensures) (omega arith) body;
      holds = (refl, refl);
    }
