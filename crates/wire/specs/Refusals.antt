-- Refusals: their numbers, and how one gets its place as it rises. Assumes nothing.
use Rattle.std.specs.Prelude.{ℕ, ◌+◌, ◌^◌, ◌<◌, Ok, Err, Result}
use Rattle.wire.specs.declared.refusal.Reason.{Reason}
use Rattle.wire.specs.declared.refusal.Reason.TheVariants.{DictionarySize, Layout, LineShape, LineName, UnknownType, LineGeometry, FrameSize, Encoding, SchemaId, UnknownTemplate, BlockLength, Padding, NoPattern, RequiredAbsent, PastEnd, TooMany, LeftOver, CannotOpen, NotFound, NoSuchValue, NoRoom, NotThisForm, Full, TooLong}
use Rattle.wire.specs.declared.refusal.Refusal.{Refusal}

-- the number of a reason, as the C boundary and the listing tell it
abbrev pub number_of : Reason → ℕ
number_of DictionarySize = 1
number_of Layout = 2
number_of LineShape = 3
number_of LineName = 4
number_of UnknownType = 5
number_of LineGeometry = 6
number_of FrameSize = 10
number_of Encoding = 11
number_of SchemaId = 12
number_of UnknownTemplate = 13
number_of BlockLength = 14
number_of Padding = 15
number_of NoPattern = 16
number_of RequiredAbsent = 17
number_of PastEnd = 18
number_of TooMany = 19
number_of LeftOver = 20
number_of CannotOpen = 21
number_of NotFound = 22
number_of NoSuchValue = 23
number_of NoRoom = 24
number_of NotThisForm = 25
number_of Full = 26
number_of TooLong = 27

abbrev pub refusal : Reason → ℕ → ℕ → Refusal
refusal why place tag = record { reason = why; place = place; tag = tag }

-- a refusal that as yet has neither place nor tag
abbrev pub plain : Reason → Refusal
plain why = refusal why 0 0

-- what rises from an object that begins at `place` and has the tag: the place inside it is added to where it begins
abbrev pub moved_up : Refusal → ℕ → ℕ → Refusal
moved_up e place tag = refusal e.reason (e.place + place) tag

-- the sum of the places is one that a refusal can hold
abbrev pub Room : {T : Type 0} → Result T Refusal → ℕ → Type 0
Room (Ok x) place = Unit {0}
Room (Err e) place = e.place + place < 2 ^ 64

abbrev pub located_as : {T : Type 0} → Result T Refusal → ℕ → ℕ → Result T Refusal
located_as (Ok x) place tag = Ok x
located_as (Err e) place tag = Err (moved_up e place tag)

-- one answer after another: the first refusal, or what the last one gives
abbrev pub bind : {X Y : Type 0} → Result X Refusal → (X → Result Y Refusal) → Result Y Refusal
bind (Ok x) f = f x
bind (Err e) f = Err e
