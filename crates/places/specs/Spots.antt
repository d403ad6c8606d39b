-- What the places found in a frame's bytes have to do with the message whose frame it is. Assumes nothing.
use Rattle.std.specs.Prelude.{◌≡◌, ℕ, List, length, Ok, Err, Result}
use Rattle.wire.specs.declared.refusal.Refusal.{Refusal}
use Rattle.types.specs.Kinds.{Known}
use Rattle.schema.specs.Structure.{Template}
use Rattle.schema.specs.Seen.{seen_template}
use Rattle.message.specs.Frames.{GroupView, DataView, Contents}
use Rattle.message.specs.Messages.{slot_of, group_view, data_view, view_of}
use Rattle.calls.specs.Changes.{FieldSpot, GroupSpot, PartSpot, field_spot, group_spot, part_spot}
use Rattle.places.specs.Places.{PlacedField, PlacedGroup, PlacedPart, field_place, group_place, part_place}

-- a group or a data with the number of its entries or bytes
pub record Counted (X : Type 0) : Type 0 where
  pub place : ℕ
  pub line : X
  pub count : ℕ

abbrev pub seen_field_spot : Known → Result PlacedField Refusal → Result FieldSpot Refusal
seen_field_spot known (Ok f) = Ok (record { place = f.place; slot = slot_of known f.field })
seen_field_spot known (Err e) = Err e

abbrev pub counted_group : Known → Result PlacedGroup Refusal → Result (Counted GroupView) Refusal
counted_group known (Ok g) = Ok (record { place = g.place; line = group_view known g.group; count = g.count })
counted_group known (Err e) = Err e

abbrev pub counted_entries : Result GroupSpot Refusal → Result (Counted GroupView) Refusal
counted_entries (Ok g) = Ok (record { place = g.place; line = g.group; count = length g.entries })
counted_entries (Err e) = Err e

abbrev pub counted_part : Result PlacedPart Refusal → Result (Counted DataView) Refusal
counted_part (Ok d) = Ok (record { place = d.place; line = data_view d.part; count = d.count })
counted_part (Err e) = Err e

abbrev pub counted_content : Result PartSpot Refusal → Result (Counted DataView) Refusal
counted_content (Ok d) = Ok (record { place = d.place; line = d.part; count = length d.content })
counted_content (Err e) = Err e

-- the places in the bytes are those in the message
pub record PlacesAreSpots (known : Known) (u : ℕ) (bs : List ℕ) (t : Template) (c : Contents) : Type 0 where
  pub fields : (group entry tag : ℕ) → field_spot (view_of known (seen_template u t)) c group entry tag ≡ seen_field_spot known (field_place u bs t group entry tag)
  pub groups : (tag : ℕ) → counted_entries (group_spot (view_of known (seen_template u t)) c tag) ≡ counted_group known (group_place u bs t tag)
  pub parts : (tag : ℕ) → counted_content (part_spot (view_of known (seen_template u t)) c tag) ≡ counted_part (part_place u bs t tag)
