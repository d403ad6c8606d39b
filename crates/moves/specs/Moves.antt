-- What is done to the bytes of a buffer. Assumes nothing.
use Rattle.std.specs.Prelude.{ℕ, ◌+◌, ◌-◌, List, ◌++◌, length, take, drop}

-- the bytes x in place of as many, from p on
abbrev pub patched : ℕ → List ℕ → List ℕ → List ℕ
patched p x bs = take p bs ++ (x ++ drop (p + length x) bs)

-- what stands from `from` up to `end` also at `to`, in place of as many bytes
abbrev pub shifted : ℕ → ℕ → ℕ → List ℕ → List ℕ
shifted from end to bs = take to bs ++ (take (end - from) (drop from bs) ++ drop (to + (end - from)) bs)

-- x in place of the k bytes at p, in what a buffer holds up to `end`: what follows them moves, and the bytes behind the new end stand
abbrev pub spliced : ℕ → ℕ → List ℕ → ℕ → List ℕ → List ℕ
spliced p k x end bs = patched p x (shifted (p + k) end (p + length x) bs)
