use Rattle.std.proofs.Common.{◌<◌, sym, ap, ◌∙◌, arith}
use Rattle.frame.specs.Spots.{shown_spot, items_from}
use Rattle.frame.proofs.Onward.{as_from, entry_on, entries_on}
use Rattle.frame.proofs.walking.Walk.step_in_entries.Goals as goal

pub returns-in-Some : goal.returns-in-Some
returns-in-Some g c =
    let known = g.L.TypeLibrary.known c.args.self.now.library.now in
    let bs = c.args.self.now.bytes.now in
    let a = shown_spot c.args.at in
    let more : 0 < a.entries = omega arith in
    as_from known bs a (shown_spot c.next_entry.result) c.field_step.result
    (entry_on known bs a c.requires.room c.requires.behind more ∙ ap (items_from known bs) (sym c.next_entry.ensures))
    c.field_step.ensures

pub returns-in-None : goal.returns-in-None
returns-in-None g c =
    let known = g.L.TypeLibrary.known c.args.self.now.library.now in
    let bs = c.args.self.now.bytes.now in
    let a = shown_spot c.args.at in
    as_from known bs a (shown_spot c.without_entries.result) c.step_in_groups-in-None.result
    (entries_on known bs a c.requires.room c.in-None.ensures.steps.0.0 ∙ ap (items_from known bs) (sym c.without_entries.ensures))
    c.step_in_groups-in-None.ensures
