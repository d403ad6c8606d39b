use Rattle.filling.proofs.Fronts.{begun}
use Rattle.filling.proofs.working.begins_with.Goals as goal

pub returns-then-form-buffer : goal.returns-then-form-buffer
returns-then-form-buffer g c =
    begun (g.L.TypeLibrary.known c.args.library.now) c.args.dictionary.now c.args.buffer.now c.args.form.template c.args.form.version c.args.form.length c.upto.result.now c.is_frame_of.result
    c.if-form-buffer.true c.upto.ensures c.is_frame_of.ensures
