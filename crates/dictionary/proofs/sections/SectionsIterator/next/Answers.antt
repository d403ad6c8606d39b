use Rattle.std.proofs.Common.{sym, arith}
use Rattle.dictionary.specs.Shown.{shown_section}
use Rattle.dictionary.proofs.Cutting.{section_fits, sections_end, sections_go_on, fewer}
use Rattle.dictionary.proofs.sections.SectionsIterator.next.Goals as goal

pub returns-in_err-section-clause-steps : goal.returns-in_err-section-clause-steps
returns-in_err-section-clause-steps c = rw c.from_residual.ensures (sections_end c.args.self.now.rest.now c.in_err-section.ensures)

pub tail-self-requires : goal.tail-self-requires
tail-self-requires c =
    let fits = section_fits c.args.self.now.rest.now (shown_section c.in_ok-section.section) (sym c.in_ok-section.ensures) in
    omega (arith, c.bytes.ensures)

pub returns-clause-steps : goal.returns-clause-steps
returns-clause-steps c = sections_go_on c.args.self.now.rest.now c.tail-self.result.now (shown_section c.in_ok-section.section) c.bytes.result c.in_ok-section.ensures c.bytes.ensures c.tail-self.ensures.value

pub returns-clause-goes : goal.returns-clause-goes
returns-clause-goes c =
    let step = sections_go_on c.args.self.now.rest.now c.tail-self.result.now (shown_section c.in_ok-section.section) c.bytes.result c.in_ok-section.ensures c.bytes.ensures c.tail-self.ensures.value in
    record { on = λ _. (tt, tt, fewer _ _ _ step.0.0); keeps = tt; rests = λ _. tt }
