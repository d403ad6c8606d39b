use Rattle.std.proofs.Common.{arith}
use Rattle.dictionary.specs.Shown.{shown_section}
use Rattle.steps.proofs.Opening.{geometry_needs}
use Rattle.steps.proofs.Fitting.{geometry_fits}
use Rattle.filling.proofs.opening.put_blank_frame.Goals as goal

pub put_blank_contents-requires : goal.put_blank_contents-requires
put_blank_contents-requires g c =
    let known = g.L.TypeLibrary.known c.args.library.now in
    let lawful = g.met.L.TypeLibrary.lawful c.args.library.now in
    let t = shown_section c.args.section in
    let right = c.requires.right in
    let needs = geometry_needs known lawful right.version right.place c.args.form.version t right.geometry in
    let long = c.requires.long in
    let room = c.requires.room in
    record {
      room = omega arith;
      fit = (geometry_fits known lawful right.version right.place c.args.form.version t right.geometry).root;
    }
