use Rattle.std.proofs.Common.{◌≡◌, take}
use Rattle.wire.specs.Numbers.{be_value}
use Rattle.wire.proofs.number.be_read.Given as goal

-- what is passed so far is the number of the bytes below the index
abbrev pub invariant-loop-b : goal.invariant-loop-b
invariant-loop-b l = l.n ≡ be_value (take l.b-index l.s)
