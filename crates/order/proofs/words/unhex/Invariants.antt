use Rattle.std.proofs.Common.{◌≡◌, ◌++◌, length, vec_items}
use Rattle.order.specs.Words.{bytes_of}
use Rattle.order.proofs.words.unhex.Given as goal

-- the bytes so far, and those of what is left, are those of the whole
abbrev pub invariant-loop-left : goal.invariant-loop-left
invariant-loop-left l = vec_items l.bytes ++ bytes_of l.left ≡ bytes_of l.word

abbrev pub decreases-loop-left : goal.decreases-loop-left
decreases-loop-left l = length l.left
