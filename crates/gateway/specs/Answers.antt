-- What is told to C of an answer. Assumes nothing.
use Rattle.std.specs.Prelude.{ℕ, Ok, Err, Result}
use Rattle.wire.specs.declared.refusal.Refusal.{Refusal}
use Rattle.wire.specs.Refusals.{number_of}

-- the number of the refusal, 0 where nothing is refused
abbrev pub number : {X : Type 0} → Result X Refusal → ℕ
number (Ok x) = 0
number (Err e) = number_of e.reason

-- the place after a call: the refusal's, or the one before
abbrev pub place_after : {X : Type 0} → Result X Refusal → ℕ → ℕ
place_after (Ok x) before = before
place_after (Err e) before = e.place

-- the tag after a call: the refusal's, or the one before
abbrev pub tag_after : {X : Type 0} → Result X Refusal → ℕ → ℕ
tag_after (Ok x) before = before
tag_after (Err e) before = e.tag
