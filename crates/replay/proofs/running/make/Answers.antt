use Rattle.replay.specs.declared.asked.Answer.TheVariants as answer
use Rattle.replay.specs.Shown.{shown_form}
use Rattle.replay.proofs.Made.{one_call}
use Rattle.replay.proofs.running.make.Goals as goal

pub returns : goal.returns
returns g c =
    one_call (g.L.TypeLibrary.known c.args.library.now) c.args.dictionary.now (shown_form c.args.form) c.args.buffer.now c.args.call _ c.run-left.result c.run-left.new.answers answer.OutOfTurn _ c.run-left.new.buffer c.from_ref.ensures.value c.run-left.auto.answers c.run-left.ensures.form c.run-left.ensures.buffer c.run-left.ensures.answers
