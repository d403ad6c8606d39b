-- What a reading of the code is. Assumes nothing.
use Rattle.std.specs.Prelude.{Ok, Err, Result}
use Rattle.wire.specs.declared.refusal.Refusal.{Refusal}
use Rattle.types.specs.Meanings.{absent, meaning}
use Rattle.message.specs.Lookup.{Reading, means, holds}
use Rattle.frame.specs.declared.reading.Reading.{Reading as CodeReading}
use Rattle.frame.specs.declared.reading.Reading.TheVariants as code

abbrev pub shown : CodeReading → Reading
shown code.Absent = means absent
shown (code.Value v) = means (meaning v)
shown (code.Data s) = holds s.now

abbrev pub shown_reading : Result CodeReading Refusal → Result Reading Refusal
shown_reading (Ok r) = Ok (shown r)
shown_reading (Err e) = Err e
