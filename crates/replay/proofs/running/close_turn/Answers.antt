use Rattle.replay.proofs.Turning.{closes, closes_not}
use Rattle.replay.proofs.running.close_turn.Goals as goal

pub returns-in-Ok : goal.returns-in-Ok
returns-in-Ok g c =
    closes (g.L.TypeLibrary.known c.args.library.now) c.args.dictionary.now c.args.buffer.now c.args.form c.in-Open.held c.in-Ok.closed c.close.result c.in-Open.is c.in-Ok.is c.close.ensures

pub returns-in-Err : goal.returns-in-Err
returns-in-Err g c =
    closes_not (g.L.TypeLibrary.known c.args.library.now) c.args.dictionary.now c.args.buffer.now c.args.form c.in-Open.held (c.in-Err.«open», c.in-Err.e) c.close.result c.in-Open.is c.in-Err.is c.close.ensures
