use Rattle.std.proofs.Common.{sym, refl, ap, ◌∙◌}
use Rattle.frame.specs.Spots.{shown_spot, first_of, rest_of}
use Rattle.frame.proofs.Onward.{no_room}
use Rattle.frame.proofs.walking.Walk.next.Goals as goal

pub returns-then-not-has_room : goal.returns-then-not-has_room
returns-then-not-has_room g c =
    let w = c.args.self.now in
    let none = no_room (g.L.TypeLibrary.known w.library.now) w.bytes.now (shown_spot w.at) (sym c.has_room.ensures ∙ c.if-not-has_room.true) in
    record { item = sym (ap first_of none); rest = none ∙ sym (ap rest_of none); library = refl; frame = refl }
