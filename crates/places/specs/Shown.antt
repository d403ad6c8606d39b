-- What the places of the code are. Assumes nothing.
use Rattle.std.specs.Prelude.{ℕ, ◌+◌, ◌^◌, ◌<◌, ◌≤◌, List, drop, Ok, Err, Result}
use Rattle.wire.specs.declared.refusal.Reason.TheVariants as reason
use Rattle.wire.specs.declared.refusal.Refusal.{Refusal}
use Rattle.wire.specs.Refusals.{refusal}
use Rattle.schema.specs.Structure.{Group}
use Rattle.schema.specs.Seen.{seen_fields, seen_group}
use Rattle.message.specs.Frames.{entry_count}
use Rattle.dictionary.specs.Shown.{shown_field}
use Rattle.lines.specs.Held.{fields_in}
use Rattle.lines.specs.Walks.{data_at}
use Rattle.places.specs.declared.place.FieldPlace.{FieldPlace}
use Rattle.places.specs.declared.place.GroupPlace.{GroupPlace}
use Rattle.places.specs.declared.place.PartPlace.{PartPlace}
use Rattle.places.specs.Places.{PlacedField, PlacedGroup, PlacedPart}

-- there is no such group, entry or tag
abbrev pub none_such : ℕ → Refusal
none_such tag = refusal reason.NotFound 0 tag

abbrev pub shown_field_place : Result FieldPlace Refusal → Result PlacedField Refusal
shown_field_place (Ok f) = Ok (record { place = f.place; field = shown_field f.field })
shown_field_place (Err e) = Err e

-- a group as it is seen at u: its fields are those that its lines begin with
abbrev pub shown_group : ℕ → GroupPlace → PlacedGroup
shown_group u g = record { place = g.place; group = record { tag = g.tag; block = record { size = g.size; fields = seen_fields u (fields_in g.lines.now) } }; count = g.count }

abbrev pub shown_group_place : ℕ → Result GroupPlace Refusal → Result PlacedGroup Refusal
shown_group_place u (Ok g) = Ok (shown_group u g)
shown_group_place u (Err e) = Err e

abbrev pub shown_part_place : Result PartPlace Refusal → Result PlacedPart Refusal
shown_part_place (Ok d) = Ok (record { place = d.place; part = data_at d.part; count = d.count })
shown_part_place (Err e) = Err e

-- the group that begins at p, as it is seen at u
abbrev pub group_from : ℕ → List ℕ → ℕ → Group → PlacedGroup
group_from u bs p g = record { place = p; group = seen_group u g; count = entry_count (drop p bs) }

-- ---- how large the numbers of what is found can be, whatever the bytes are

abbrev pub NearField : Result FieldPlace Refusal → Type 0
NearField (Ok f) = f.place < 2 ^ 63 + 2 ^ 62 + 2 ^ 61
NearField (Err e) = Unit {0}

-- the head and the entries of a group: at most 3 + 255 * 65535 bytes
abbrev pub NearGroup : Result GroupPlace Refusal → Type 0
NearGroup (Ok g) = (g.place ≤ 2 ^ 63 + 2 ^ 62) × (g.count ≤ 255) × (g.size ≤ 65535)
NearGroup (Err e) = Unit {0}

abbrev pub NearPart : Result PartPlace Refusal → Type 0
NearPart (Ok d) = (d.place < 2 ^ 63 + 2 ^ 62 + 2 ^ 61) × (d.count ≤ 255)
NearPart (Err e) = Unit {0}
