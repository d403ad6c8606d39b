-- What the code finds at a group, an entry and a tag, and the steps that lead there. Assumes nothing.
use Rattle.std.specs.Prelude.{ℕ, ◌+◌, cond, List, drop, Ok, Err, Result, nat_le}
use Rattle.wire.specs.declared.refusal.Refusal.{Refusal}
use Rattle.schema.specs.Structure.{Field, Data}
use Rattle.dictionary.specs.Shown.{shown_field}
use Rattle.message.specs.Frames.{content_length, part_length}
use Rattle.message.specs.Spots.{Spot, field, part, newer_field, newer_part}
use Rattle.frame.specs.declared.held.Held.{Held}
use Rattle.frame.specs.declared.held.Held.TheVariants as code

abbrev pub shown_held : Held → Spot
shown_held (code.Field place line) = field place (shown_field line)
shown_held (code.Data place length) = part place length
shown_held code.NewerField = newer_field
shown_held code.NewerData = newer_part

abbrev pub shown_holding : Result Held Refusal → Result Spot Refusal
shown_holding (Ok h) = Ok (shown_held h)
shown_holding (Err e) = Err e

-- a field of a block that begins at `base`
abbrev pub spot_of_field : ℕ → ℕ → Field → Spot
spot_of_field u base f = cond (nat_le f.since u) (field (base + f.offset) f) newer_field

-- the data that begins at p
abbrev pub spot_of_part : ℕ → List ℕ → ℕ → Data → Spot
spot_of_part u bs p d = cond (nat_le d.since u) (part (p + d.prefix) (content_length d.prefix (drop p bs))) newer_part

-- the place behind that data
abbrev pub part_end : ℕ → List ℕ → ℕ → Data → ℕ
part_end u bs p d = cond (nat_le d.since u) (p + part_length d.prefix (drop p bs)) p
