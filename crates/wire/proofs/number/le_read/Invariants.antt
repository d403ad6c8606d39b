use Rattle.std.proofs.Common.{◌≡◌, length, reverse, take}
use Rattle.wire.specs.Numbers.{be_value}
use Rattle.wire.proofs.number.le_read.Given as goal

-- what is passed so far, from the end, is the number of those bytes
abbrev pub invariant-loop-b : goal.invariant-loop-b
invariant-loop-b l = l.n ≡ be_value (take (length l.yielded) (reverse l.s))
