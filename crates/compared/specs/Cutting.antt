-- What is told of the front of a stream. Assumes nothing.
use Rattle.std.specs.Prelude.{ℕ, length, Ok, Err, Result}
use Rattle.wire.specs.declared.refusal.Refusal.{Refusal}
use Rattle.wire.specs.Refusals.{number_of}
use Rattle.wire.specs.Streams.{Front, missing, whole}

-- the number of the refusal, 0 where nothing is refused
abbrev pub number : Result Front Refusal → ℕ
number (Ok x) = 0
number (Err e) = number_of e.reason

-- whether there is a whole frame: 1 or 0; on a refusal what was there before
abbrev pub kind_after : Result Front Refusal → ℕ → ℕ
kind_after (Ok (missing n)) before = 0
kind_after (Ok (whole frame rest)) before = 1
kind_after (Err e) before = before

-- how long the frame is, or how many bytes are missing; on a refusal what was there before
abbrev pub count_after : Result Front Refusal → ℕ → ℕ
count_after (Ok (missing n)) before = n
count_after (Ok (whole frame rest)) before = length frame
count_after (Err e) before = before

-- the refusal's place and tag; where nothing is refused what was there before
abbrev pub place_after : Result Front Refusal → ℕ → ℕ
place_after (Ok x) before = before
place_after (Err e) before = e.place

abbrev pub tag_after : Result Front Refusal → ℕ → ℕ
tag_after (Ok x) before = before
tag_after (Err e) before = e.tag
