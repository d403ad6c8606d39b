use Rattle.std.proofs.Common.{sym, ap, ◌∙◌}
use Rattle.schema.specs.Reading.{version_of, sections_of}
use Rattle.dictionary.specs.Found.{shown_found}
use Rattle.message.specs.Messages.{stated_root, stated_template, stated_version}
use Rattle.judging.proofs.PutTogether.{found_same}
use Rattle.judging.proofs.judging.check_template.Goals as goal

pub returns : goal.returns
returns g c =
    let s = c.args.dictionary.now in
    let bs = c.args.bytes.now in
    found_same (g.L.TypeLibrary.known c.args.library.now) c.args.closed (sections_of s) c.check_found.result
    c.number_at-last.result (version_of s) c.stated_at-version.result (stated_version bs) c.stated_at-2.result (stated_root bs) c.stated_at.result (stated_template bs)
    c.beyond.result.now _ _
    c.number_at-last.ensures c.stated_at-version.ensures c.stated_at-2.ensures c.stated_at.ensures c.beyond.ensures (ap shown_found (sym c.in_ok-found.ensures.ok_part) ∙ c.find.ensures.value) c.check_found.ensures
