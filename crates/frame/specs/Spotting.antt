-- What a spot of the code is. Assumes nothing.
use Rattle.std.specs.Prelude.{Ok, Err, Result}
use Rattle.wire.specs.declared.refusal.Refusal.{Refusal}
use Rattle.types.specs.Kinds.{Known}
use Rattle.message.specs.Spots.{Spot, spot_place, spot_length}
use Rattle.frame.specs.declared.spotting.Spot.{Spot as CodeSpot}

abbrev pub spot_of : Known → Spot → CodeSpot
spot_of known s = record { place = spot_place s; length = spot_length known s }

abbrev pub spots : Known → Result Spot Refusal → Result CodeSpot Refusal
spots known (Ok s) = Ok (spot_of known s)
spots known (Err e) = Err e
