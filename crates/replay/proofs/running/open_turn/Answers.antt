use Rattle.replay.specs.Shown.{shown_form}
use Rattle.replay.proofs.Turning.{opens, opens_not}
use Rattle.replay.proofs.running.open_turn.Goals as goal

pub returns-in-Ok : goal.returns-in-Ok
returns-in-Ok g c =
    opens (g.L.TypeLibrary.known c.args.library.now) c.args.dictionary.now c.args.buffer.now (shown_form c.args.form) c.args.template c.args.version c.in-Ok.held c.open.result c.open.new.buffer c.in-Ok.is c.open.ensures

pub returns-in-Err : goal.returns-in-Err
returns-in-Err g c =
    opens_not (g.L.TypeLibrary.known c.args.library.now) c.args.dictionary.now c.args.buffer.now c.args.form c.args.template c.args.version c.in-Err.e c.open.result c.open.new.buffer c.in-Err.is c.open.ensures
