use Rattle.std.proofs.Common.{sym, ap, ◌∙◌}
use Rattle.schema.specs.Geometry.{section_geometry}
use Rattle.dictionary.specs.Found.{placed_section}
use Rattle.dictionary.specs.Shown.{shown_section}
use Rattle.filling.proofs.Blanks.{blank_left}
use Rattle.filling.proofs.opening.open_with.Goals as goal

pub returns : goal.returns
returns g c =
    let known = g.L.TypeLibrary.known c.args.library.now in
    let s = c.args.dictionary.now in
    blank_left known s c.args.buffer.now c.args.template c.args.version (placed_section c.args.found) c.blank_length-length.result c.number_at-2.result c.put_blank_frame.new.buffer
    (ap (λ v. section_geometry known v c.args.found.place (shown_section c.args.found.section)) (sym c.number_at.ensures) ∙ sym c.check_geometry.ensures ∙ c.in_ok-check_geometry.was)
    c.blank_length-length.ensures
    (sym c.check_room.ensures.value ∙ c.in_ok-check_room.was)
    c.number_at-2.ensures
    c.put_blank_frame.ensures
