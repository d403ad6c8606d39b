use Rattle.std.proofs.Common.{◌≡◌, ◌+◌, ◌-◌, ◌<◌, length, map, take, drop, sym, ap, ◌∙◌, ap₂, arith, length-take, rules}
use Rattle.std.proofs.lemmas.Result.{err_from_is_err_and}
use Rattle.schema.specs.Geometry.{kind_of, width_or_0}
use Rattle.dictionary.specs.Shown.{shown_field}
use Rattle.message.specs.Blocks.{padding_verdict, fields_verdict}
use Rattle.message.specs.Messages.{slot_of}
use Rattle.judging.proofs.Blocks.{fields_more, fields_refused}
use Rattle.judging.proofs.rules.Rules.check_fields.Goals as goal

pub returns-in_err-check_one : goal.returns-in_err-check_one
returns-in_err-check_one g c =
    let known = g.L.TypeLibrary.known c.args.self.now.library.now in
    let p = err_from_is_err_and c.from_residual.result c.from_residual.ensures.1 in
    p.1 ∙ rw p.2 (fields_refused known c.args.self.now.closed c.args.base c.args.size c.loop-f.at _ _ c.loop-f.rest.now (shown_field c.in-Some.f) c.check_one.result _ _ c.in-Some.ensures.steps.0.0 c.check_one.ensures c.in_err-check_one.was c.loop-f.invariant.1)

pub loop-f-preserved : goal.loop-f-preserved
loop-f-preserved g c =
    let known = g.L.TypeLibrary.known c.args.self.now.library.now in
    let f = shown_field c.in-Some.f in
    let width = c.width_of-width.ensures.value in
    let narrow = c.width_of-width.ensures.bound in
    let rest : c.beyond-rest.result.now ≡ drop (width_or_0 (kind_of known f)) (drop (f.offset - c.loop-f.at) c.loop-f.rest.now) =
    c.beyond-rest.ensures
    ∙ ap₂ drop width (c.beyond.ensures ∙ ap (λ n. drop n c.loop-f.rest.now) c.saturating_sub-gap.ensures) in
    let short : c.in-Some.f.offset < 65536 = search rules in (
      omega arith,
      fields_more known c.args.self.now.closed c.args.base c.args.size c.loop-f.at _ _ _ c.loop-f.rest.now c.beyond-rest.result.now f c.check_one.result _ _
          c.in-Some.ensures.steps.0.0 c.check_one.ensures c.in_ok-check_one.was rest (ap (λ w. f.offset + w) width) c.loop-f.invariant.1,
    )

pub check_padding-requires : goal.check_padding-requires
check_padding-requires g c =
    let long = ap length c.upto.ensures ∙ length-take c.saturating_sub.result c.loop-f.rest.now in
    let near = c.loop-f.invariant.0 in
    omega (arith, long, c.saturating_sub.ensures)

pub returns : goal.returns
returns g c =
    let known = g.L.TypeLibrary.known c.args.self.now.library.now in
    c.check_padding.ensures
    ∙ ap (padding_verdict (c.args.base + c.loop-f.at)) (c.upto.ensures ∙ ap (λ n. take n c.loop-f.rest.now) c.saturating_sub.ensures)
    ∙ ap (λ fs. fields_verdict c.args.self.now.closed c.args.base c.loop-f.at (map (slot_of known) fs) c.args.size c.loop-f.rest.now) (sym c.in-None.ensures.steps.0.0)
    ∙ c.loop-f.invariant.1
