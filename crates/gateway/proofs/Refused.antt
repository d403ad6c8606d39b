-- What is refused in reading, or in telling where what is read lies, is refused in finding.
use Rattle.std.proofs.Common.{◌≡◌, Ok, Err, Result, sym, refl, ap, ◌∙◌, ap₂}
use Rattle.wire.specs.declared.refusal.Refusal.{Refusal}
use Rattle.wire.specs.Refusals.{bind}
use Rattle.types.specs.Kinds.{Known}
use Rattle.schema.specs.Verdicts.{Verdict, fine}
use Rattle.message.specs.Lookup.{Reading}
use Rattle.message.specs.Spots.{Spot, spot_place, spot_length}
use Rattle.frame.specs.declared.spotting.Spot.{Spot as CodeSpot}
use Rattle.frame.specs.Spotting.{spots}
use Rattle.gateway.specs.declared.Finding.{Finding}
use Rattle.gateway.specs.declared.Kind.{Kind}
use Rattle.gateway.specs.Finding.{kind_found}

abbrev placed : Known → Kind → Result Spot Refusal → Result Finding Refusal
placed known k y = bind y (λ y. Ok (record { kind = k; place = spot_place y; length = spot_length known y }))

abbrev finding : Known → Verdict → Result Reading Refusal → Result Spot Refusal → Result Finding Refusal
finding known v x y = bind v (λ _. bind x (λ x. placed known (kind_found x) y))

pub read_refused : (known : Known) (v : Verdict) (x : Result Reading Refusal) (y : Result Spot Refusal) (e : Refusal) → v ≡ fine → Err e ≡ x → Err e ≡ finding known v x y
read_refused known v x y e p q = ap₂ (λ (v : Verdict) (x : Result Reading Refusal). finding known v x y) (sym p) q

abbrev as_found : Kind → Result CodeSpot Refusal → Result Finding Refusal
as_found k r = bind r (λ (s : CodeSpot). Ok (record { kind = k; place = s.place; length = s.length }))

spot_told : (known : Known) (k : Kind) (y : Result Spot Refusal) → as_found k (spots known y) ≡ placed known k y
spot_told known k (Ok s) = refl
spot_told known k (Err e) = refl

pub spot_refused : (known : Known) (v : Verdict) (x : Result Reading Refusal) (y : Result Spot Refusal) (r : Reading) (e : Refusal) → v ≡ fine → Ok r ≡ x → Err e ≡ spots known y → Err e ≡ finding known v x y
spot_refused known v x y r e p q s =
    ap (as_found (kind_found r)) s
    ∙ spot_told known (kind_found r) y
    ∙ ap₂ (λ (v : Verdict) (x : Result Reading Refusal). finding known v x y) (sym p) q
