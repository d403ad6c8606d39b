-- The bytes that a pattern of the code holds. Assumes nothing.
use Rattle.std.specs.Prelude.{ℕ, List, take}
use Rattle.types.specs.declared.pattern.Pattern.{Pattern}

abbrev pub pattern_bytes : Pattern → List ℕ
pattern_bytes p = take p.width p.bytes
