use Rattle.std.proofs.Common.{take}
use Rattle.std.specs.Fmt.{IsPlainFormatter, HasWritten}
use Rattle.printing.specs.Written.{pairs}
use Rattle.printing.proofs.shown.HexDisplay.fmt.Given as goal

-- the digits of the bytes so far are written
abbrev pub invariant-loop-b : goal.invariant-loop-b
invariant-loop-b g l = IsPlainFormatter l.initial.f → HasWritten g.W.Write.write_str_gives l.initial.f (pairs (take l.b-index l.b-items)) l.f
