use Rattle.std.proofs.Common.{sym, ap, ◌∙◌, arith}
use Rattle.std.proofs.lemmas.Result.{err_from_is_err_and}
use Rattle.std.proofs.lemmas.Grind.{common_steps}
use Rattle.schema.specs.Sections.{section_size, first_section, sections}
use Rattle.schema.specs.Shape.{sections_shape}
use Rattle.schema.proofs.SectionPieces.{section_pieces}
use Rattle.dictionary.specs.Shown.{shown_section}
use Rattle.dictionary.proofs.Cutting.{section_cut, broken_section, none_left}
use Rattle.dictionary.proofs.Rounds.{shape_more, shape_refused}
use Rattle.dictionary.proofs.section.check_sections.Goals as goal

pub returns-in_err-check_shape : goal.returns-in_err-check_shape
returns-in_err-check_shape c =
    let p = err_from_is_err_and c.from_residual.result c.from_residual.ensures.1 in
    let t = shown_section c.in-Some.section in
    let cut = section_cut c.loop-section.sections.rest.now c.next.new.self.rest.now t c.in-Some.ensures.steps.1.0 c.in-Some.ensures.steps.1.1 in
    p.1 ∙ rw p.2 (shape_refused c.loop-section.sections.rest.now c.next.new.self.rest.now c.loop-section.place c.loop-section.least t c.check_shape.result _ _ cut.all c.check_shape.ensures c.in_err-check_shape.was c.loop-section.invariant.1)

pub loop-section-preserved : goal.loop-section-preserved
loop-section-preserved c =
    let t = shown_section c.in-Some.section in
    let cut = section_cut c.loop-section.sections.rest.now c.next.new.self.rest.now t c.in-Some.ensures.steps.1.0 c.in-Some.ensures.steps.1.1 in
    let long = cut.long in (
      omega (arith, c.bytes-place.ensures),
      shape_more c.loop-section.sections.rest.now c.next.new.self.rest.now c.loop-section.place c.bytes-place.result c.loop-section.least c.from-least.result t c.check_shape.result _ _ cut.all c.bytes-place.ensures c.from-least.ensures c.check_shape.ensures c.in_ok-check_shape.was c.loop-section.invariant.1,
    )

pub returns-then-is_empty : goal.returns-then-is_empty
returns-then-is_empty c =
    ap (sections_shape c.loop-section.least c.loop-section.place) (sym (none_left first_section section_size sections section_pieces c.loop-section.sections.rest.now (grind (arith, common_steps))))
    ∙ c.loop-section.invariant.1

pub returns-else-is_empty : goal.returns-else-is_empty
returns-else-is_empty c =
    rw c.at.ensures (ap (sections_shape c.loop-section.least c.loop-section.place) (sym (broken_section c.loop-section.sections.rest.now c.in_default.ensures.steps.1.0 (grind (arith, common_steps)))) ∙ c.loop-section.invariant.1)
