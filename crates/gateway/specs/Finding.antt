-- What is found in a frame, as it is told to C. Assumes nothing.
use Rattle.std.specs.Prelude.{◌≡◌, ℕ, List, Ok, Err, Result, refl}
use Rattle.wire.specs.declared.refusal.Refusal.{Refusal}
use Rattle.wire.specs.Refusals.{bind}
use Rattle.types.specs.Meanings.{Meaning, absent, unsigned, signed, decimal, investor, text}
use Rattle.types.specs.Kinds.{Known}
use Rattle.message.specs.Messages.{frame_verdict}
use Rattle.message.specs.Lookup.{Reading, means, holds, frame_reading}
use Rattle.message.specs.Spots.{spot_place, spot_length, frame_spot}
use Rattle.gateway.specs.declared.Finding.{Finding}
use Rattle.gateway.specs.declared.Kind.{Kind}
use Rattle.gateway.specs.declared.Kind.TheVariants as kind

-- 0 for absent, 1 for a value
abbrev pub field_told : Meaning → ℕ
field_told absent = 0
field_told (unsigned n) = 1
field_told (signed z) = 1
field_told (decimal mantissa decimals) = 1
field_told (text s) = 1
field_told (investor prefix document) = 1

-- 0 for a field that is absent, 1 for one that has a value, 2 for a data
abbrev pub kind_told : Reading → ℕ
kind_told (means m) = field_told m
kind_told (holds x) = 2

-- the kind of what is found, and the number that tells it
abbrev pub field_kind : Meaning → Kind
field_kind absent = kind.Absent
field_kind (unsigned n) = kind.Value
field_kind (signed z) = kind.Value
field_kind (decimal mantissa decimals) = kind.Value
field_kind (text s) = kind.Value
field_kind (investor prefix document) = kind.Value

abbrev pub kind_found : Reading → Kind
kind_found (means m) = field_kind m
kind_found (holds x) = kind.Data

abbrev pub kind_number : Kind → ℕ
kind_number kind.Absent = 0
kind_number kind.Value = 1
kind_number kind.Data = 2

pub the_kind_is_told : (r : Reading) → kind_number (kind_found r) ≡ kind_told r
the_kind_is_told (means absent) = refl
the_kind_is_told (means (unsigned n)) = refl
the_kind_is_told (means (signed z)) = refl
the_kind_is_told (means (decimal mantissa decimals)) = refl
the_kind_is_told (means (text s)) = refl
the_kind_is_told (means (investor prefix document)) = refl
the_kind_is_told (holds x) = refl

-- acceptance, then what is read, then where it lies
abbrev pub found_in : Known → List ℕ → List ℕ → ℕ → ℕ → ℕ → Result Finding Refusal
found_in known s bs group entry tag =
    bind (frame_verdict known s bs) (λ _.
    bind (frame_reading known s bs group entry tag) (λ x.
    bind (frame_spot known s bs group entry tag) (λ y. Ok (record { kind = kind_found x; place = spot_place y; length = spot_length known y }))))

-- the three numbers after a call: those of what is found, or the ones before
abbrev pub kind_after : Result Finding Refusal → ℕ → ℕ
kind_after (Ok x) before = kind_number x.kind
kind_after (Err e) before = before

abbrev pub at_after : Result Finding Refusal → ℕ → ℕ
at_after (Ok x) before = x.place
at_after (Err e) before = before

abbrev pub length_after : Result Finding Refusal → ℕ → ℕ
length_after (Ok x) before = x.length
length_after (Err e) before = before
