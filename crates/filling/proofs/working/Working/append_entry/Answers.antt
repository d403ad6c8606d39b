use Rattle.std.proofs.Common.{◌≡◌, Ok, sym}
use Rattle.std.proofs.lemmas.Bool.{ltb-true}
use Rattle.schema.specs.Reading.{template_of}
use Rattle.dictionary.specs.Shown.{shown_section}
use Rattle.places.specs.Places.{group_place}
use Rattle.places.specs.Shown.{shown_group}
use Rattle.steps.proofs.Fitting.{geometry_fits, found_group_fits}
use Rattle.filling.proofs.working.Working.append_entry.Goals as goal

pub add_entry-requires : goal.add_entry-requires
add_entry-requires g c =
    let w = c.args.self.now in
    let known = g.L.TypeLibrary.known w.library.now in
    let t = shown_section w.section in
    let u = w.form.version in
    let found : group_place u c.upto.result.now (template_of t) c.args.group ≡ Ok (shown_group u c.in_ok-g.g) = sym c.in_ok-g.ensures.value in
    record {
      few = ltb-true _ _ (sym c.if-not-takes_another.ensures);
      fit = found_group_fits known u c.upto.result.now (template_of t) c.args.group (shown_group u c.in_ok-g.g) (geometry_fits known (g.met.L.TypeLibrary.lawful w.library.now) c.requires.right.version c.requires.right.place u t c.requires.right.geometry) found;
    }
