use Rattle.std.proofs.Common.{refl}
use Rattle.dictionary.specs.Shown.{shown_field}
use Rattle.lines.specs.Walks.{seen_fields_left}
use Rattle.frame.specs.Spots.{shown_spot}
use Rattle.frame.proofs.Onward.{near, stepped, field_on}
use Rattle.frame.proofs.walking.Walk.field_step.Goals as goal

pub field_item-requires : goal.field_item-requires
field_item-requires g c = (near (shown_spot c.args.at) c.requires.room).base

pub returns : goal.returns
returns g c =
    let known = g.L.TypeLibrary.known c.args.self.now.library.now in
    let bs = c.args.self.now.bytes.now in
    let a = shown_spot c.args.at in
    stepped known bs a _ _ _ c.field_item.ensures refl (field_on known bs a (shown_field c.args.f) (seen_fields_left c.args.left) c.requires.room c.requires.here)
