use Rattle.std.proofs.Common.{sym, ap, ◌∙◌}
use Rattle.dictionary.specs.Shown.{shown_section}
use Rattle.filling.specs.Shown.{plain_numbers, shown_working}
use Rattle.filling.proofs.Readiness.{right, short}
use Rattle.filling.proofs.working.works_on.Goals as goal

pub returns-clause-short : goal.returns-clause-short
returns-clause-short g c =
    let is = sym c.working_section.ensures ∙ ap shown_working c.in_ok-section.was in
    short (g.L.TypeLibrary.known c.args.library.now) (g.met.L.TypeLibrary.lawful c.args.library.now) c.args.dictionary.now c.args.buffer.now (plain_numbers c.args.form) c.seen.ensures (shown_section c.in_ok-section.section) is

pub returns-clause-right : goal.returns-clause-right
returns-clause-right g c =
    let is = sym c.working_section.ensures ∙ ap shown_working c.in_ok-section.was in
    right (g.L.TypeLibrary.known c.args.library.now) c.args.dictionary.now c.args.buffer.now (plain_numbers c.args.form) (shown_section c.in_ok-section.section) is
