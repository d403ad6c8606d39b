use Rattle.std.proofs.Common.{◌≡◌, ◌-◌, ◌++◌, length, take}
use Rattle.wire.specs.Numbers.{le_bytes}
use Rattle.wire.proofs.number.le_put.Given as goal

-- what is written and the bytes of what is left are the bytes of the number
abbrev pub invariant-loop-b : goal.invariant-loop-b
invariant-loop-b l = take l.b-index l.out ++ le_bytes (length l.out - l.b-index) l.left ≡ le_bytes (length l.out) l.n
