-- Which line each thing in a stream gives. Assumes nothing.
use Rattle.std.specs.Prelude.{ℕ, ◌+◌, ◌<◌, ◌≤◌, Bool, cond, List, length, drop, Ok, Err, Result}
use Rattle.wire.specs.declared.refusal.Refusal.{Refusal}
use Rattle.wire.specs.Refusals.{located_as}
use Rattle.wire.specs.Streams.{Front, missing, whole, front_of}
use Rattle.types.specs.Meanings.{Meaning}
use Rattle.types.specs.Answers.{meant_by, read_of}
use Rattle.types.specs.Kinds.{Known}
use Rattle.base.specs.Known.{base_kinds}
use Rattle.schema.specs.Verdicts.{Verdict}
use Rattle.message.specs.Messages.{stated_template, stated_version, frame_verdict}
use Rattle.message.specs.Walks.{Item, field, group, part}
use Rattle.frame.specs.declared.accepted.Frame.{Frame}
use Rattle.listing.specs.declared.Line.{Line}
use Rattle.listing.specs.declared.Line.TheVariants as line

-- a line of the code, with what it borrows as bytes and a value as its meaning
pub data Shown : Type 0 where
  dictionary : Refusal → Shown
  frame : ℕ → ℕ → ℕ → ℕ → Shown
  root : ℕ → Meaning → Shown
  entry : ℕ → Meaning → Shown
  entries : ℕ → ℕ → Shown
  content : ℕ → List ℕ → Shown
  refused : ℕ → Refusal → Shown
  waiting : ℕ → ℕ → Shown

abbrev pub shown_line : Line → Shown
shown_line (line.Dictionary e) = dictionary e
shown_line (line.Frame place length template version) = frame place length template version
shown_line (line.Root tag value) = root tag (meant_by value)
shown_line (line.Entry tag value) = entry tag (meant_by value)
shown_line (line.Group tag count) = entries tag count
shown_line (line.Data tag bytes) = content tag bytes.now
shown_line (line.Refused place e) = refused place e
shown_line (line.Waiting place count) = waiting place count

-- ---- what a place of the stream gives

-- the line of a frame that begins at `place`
abbrev pub frame_line : ℕ → List ℕ → Shown
frame_line place bs = frame place (length bs) (stated_template bs) (stated_version bs)

-- a frame that breaks a rule gives the first such rule
abbrev pub judged_line : ℕ → List ℕ → Verdict → Shown
judged_line place bs (Ok x) = frame_line place bs
judged_line place bs (Err e) = refused place e

abbrev pub line_of : List ℕ → ℕ → Result Front Refusal → Shown
line_of s place (Err e) = refused place e
line_of s place (Ok (missing n)) = waiting place n
line_of s place (Ok (whole bs rest)) = judged_line place bs (frame_verdict base_kinds s bs)

-- the line of what begins at `place`, under the dictionary that the bytes s are
abbrev pub line_at : List ℕ → List ℕ → ℕ → Shown
line_at s stream place = line_of s place (front_of (drop place stream))

-- what the code answers for a place: a frame, or another line
abbrev pub told_next : ℕ → Result Frame Line → Shown
told_next place (Ok f) = frame_line place f.bytes.now
told_next place (Err x) = shown_line x

-- a frame at `place` has at least one byte, and its bytes are there
abbrev pub Within : Result Frame Line → ℕ → ℕ → Type 0
Within (Ok f) place all = (0 < length f.bytes.now) × (place + length f.bytes.now ≤ all)
Within (Err x) place all = Unit {0}

-- ---- what an item of a frame gives

abbrev pub field_line : Bool → ℕ → Meaning → Shown
field_line inside tag m = cond inside (entry tag m) (root tag m)

-- a field that the library cannot read would be told where it stands
abbrev pub read_line : Bool → ℕ → ℕ → Result Meaning Refusal → Shown
read_line inside place tag (Ok m) = field_line inside tag m
read_line inside place tag (Err e) = refused place e

abbrev pub value_line : Known → Bool → ℕ → ℕ → ℕ → ℕ → List ℕ → List ℕ → Shown
value_line known inside place at tag type argument bytes = read_line inside place tag (located_as (read_of (known type argument) bytes) at tag)

-- the line of an item of the frame at `place`, by what the library knows
abbrev pub item_line : Known → Bool → ℕ → Item → Shown
item_line known inside place (field at tag type argument bytes) = value_line known inside place at tag type argument bytes
item_line known inside place (group at tag count head) = entries tag count
item_line known inside place (part at tag bytes) = content tag bytes
