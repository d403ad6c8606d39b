-- Cutting a stream of bytes into frames. Assumes nothing.
use Rattle.std.specs.Prelude.{◌≡◌, ℕ, ◌-◌, ◌<◌, ◌≤◌, Bool, cond, ◌&&◌, List, [], ◌++◌, length, take, drop, Ok, Err, Result, ◌==◌, nat_le}
use Rattle.wire.specs.declared.refusal.Reason.TheVariants as reason
use Rattle.wire.specs.declared.refusal.Refusal.{Refusal}
use Rattle.wire.specs.declared.stream.Piece.{Piece}
use Rattle.wire.specs.declared.stream.Piece.TheVariants as piece
use Rattle.wire.specs.Numbers.{le_value}
use Rattle.wire.specs.Refusals.{refusal}

-- what the front of a stream is: a whole frame and what follows it, or the beginning of one
pub data Front : Type 0 where
  missing : ℕ → Front
  whole : List ℕ → List ℕ → Front

-- a piece of the code, with what it borrows as bytes
abbrev pub shown : Piece → Front
shown (piece.Missing n) = missing n
shown (piece.Frame frame rest) = whole frame.now rest.now

abbrev pub told : Result Piece Refusal → Result Front Refusal
told (Ok p) = Ok (shown p)
told (Err e) = Err e

-- the first number of a stream is its first frame's whole length, the second the encoding
abbrev pub stated_length : List ℕ → ℕ
stated_length s = le_value (take 2 s)

abbrev pub stated_encoding : List ℕ → ℕ
stated_encoding s = le_value (take 2 (drop 2 s))

-- a frame has its header of 12 bytes and at most 16,384 bytes
abbrev pub frame_length : ℕ → Bool
frame_length n = nat_le 12 n && nat_le n 16384

-- the first n bytes of a stream, or how many of them are missing
abbrev pub first : ℕ → List ℕ → Front
first n s = cond (nat_le n (length s)) (whole (take n s) (drop n s)) (missing (n - length s))

-- the front of a stream whose first four bytes state a length and an encoding: refused for another encoding than EB50 (50 EB on the wire), then for a length that no frame has
abbrev pub front_by : ℕ → ℕ → List ℕ → Result Front Refusal
front_by length_stated encoding s =
    cond (encoding == 0xEB50)
    (cond (frame_length length_stated)
    (Ok (first length_stated s))
    (Err (refusal reason.FrameSize 0 0)))
    (Err (refusal reason.Encoding 2 0))

-- the front of a stream; under four bytes it states nothing yet
abbrev pub front_of : List ℕ → Result Front Refusal
front_of s =
    cond (nat_le 4 (length s))
    (front_by (stated_length s) (stated_encoding s) s)
    (Ok (missing (4 - length s)))

-- what the front of s is, and what it is once more bytes have come in behind s
abbrev pub Grown : Result Front Refusal → List ℕ → List ℕ → Result Front Refusal → Type 0
Grown (Err e) s more after = after ≡ Err e
Grown (Ok (whole frame rest)) s more after = after ≡ Ok (whole frame (rest ++ more))
Grown (Ok (missing n)) s more after =
    (length more < n → after ≡ Ok (missing (n - length more)))
    × (4 ≤ length s → length more ≡ n → after ≡ Ok (whole (s ++ more) []))

-- Whatever comes in behind a stream leaves a refusal and a whole frame as they are.
-- A missing count is what is missing: with fewer bytes the difference is still missing, and with as many, once the length is known, the frame is whole.
abbrev pub FrontStandsAsTheStreamGrows : List ℕ → Type 0
FrontStandsAsTheStreamGrows s = (more : List ℕ) → Grown (front_of s) s more (front_of (s ++ more))

-- the parts of a piece make up the stream
abbrev pub MakesUp : Result Front Refusal → List ℕ → Type 0
MakesUp (Err e) s = Unit {0}
MakesUp (Ok (missing n)) s = 0 < n
MakesUp (Ok (whole frame rest)) s = (frame ++ rest ≡ s) × (12 ≤ length frame) × (length frame ≤ 16384)
