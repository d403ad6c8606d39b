use Rattle.std.proofs.Common.{length}
use Rattle.replay.specs.Shown.{shown_form, made_calls}
use Rattle.replay.proofs.Going.{Going}
use Rattle.replay.proofs.running.run.Given as goal

-- what is left gives what the whole gives
abbrev pub invariant-loop-i : goal.invariant-loop-i
invariant-loop-i g l = Going (g.L.TypeLibrary.known l.library) l.dictionary (shown_form l.initial.held) l.initial.buffer (made_calls (length l.initial.answers) l.calls) l.initial.answers l.i (shown_form l.held) l.buffer l.answers
