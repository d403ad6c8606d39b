use Rattle.replay.proofs.Turning.{fills}
use Rattle.replay.proofs.running.fill_turn.Goals as goal

pub returns-in-Open : goal.returns-in-Open
returns-in-Open g c known s k each =
    fills known s c.args.buffer.now k c.args.form c.in-Open.held c.call.new.arg2 c.call.result c.from-answer.result c.call.new.arg3 c.in-Open.is c.from-answer.ensures (each _ _ _ _ _ c.call.ensures)
