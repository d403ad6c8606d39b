use Rattle.replay.proofs.Turning.{reopens, reopens_not}
use Rattle.replay.proofs.running.reopen_turn.Goals as goal

pub returns-in-Ok : goal.returns-in-Ok
returns-in-Ok g c =
    reopens (g.L.TypeLibrary.known c.args.library.now) c.args.dictionary.now c.args.buffer.now c.args.form c.in-Closed.held c.in-Ok.open c.reopen.result c.in-Closed.is c.in-Ok.is c.reopen.ensures

pub returns-in-Err : goal.returns-in-Err
returns-in-Err g c =
    reopens_not (g.L.TypeLibrary.known c.args.library.now) c.args.dictionary.now c.args.buffer.now c.args.form c.in-Closed.held (c.in-Err.closed, c.in-Err.e) c.reopen.result c.in-Closed.is c.in-Err.is c.reopen.ensures
