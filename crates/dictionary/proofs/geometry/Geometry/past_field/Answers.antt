use Rattle.std.proofs.Common.{◌≤◌, arith}
use mir.Facts.{Fits-of_lt}
use Rattle.dictionary.proofs.Widths.{width_bounded}
use Rattle.dictionary.proofs.geometry.Geometry.past_field.Goals as goal

pub overflow_add-end : goal.overflow_add-end
overflow_add-end g c =
    let k = g.L.TypeLibrary.known c.args.self.now.library.now c.args.f.number c.args.f.argument.now in
    let small = width_bounded k c.width.result c.located.result c.args.place c.args.f.tag c.in_ok-width.width (g.met.L.TypeLibrary.lawful c.args.self.now.library.now c.args.f.number c.args.f.argument.now) c.width.ensures c.located.ensures c.in_ok-width.was in
    let fits : c.args.f.offset ≤ 65535 = omega arith in
    Fits-of_lt (omega arith)
