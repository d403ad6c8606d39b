-- The length of a block at a version: it lies between its fields and never falls as the version rises.
use Rattle.std.proofs.Common.{◌≡◌, ℕ, ◌≤◌, List, [], ◌∷◌, map, refl, ap, ⊎_elim, arith}
use Rattle.std.specs.List.{AllByRecursion}
use Rattle.std.proofs.lemmas.Bool.{le-leb}
use Rattle.std.proofs.lemmas.Bool.Decides.{leb_tells}
use Rattle.types.specs.Kinds.{Known, AllLawful}
use Rattle.schema.specs.Structure.{Field, Block}
use Rattle.schema.specs.Geometry.{field_end, width_or_0}
use Rattle.schema.specs.Seen.{seen_fields, length_at}
use Rattle.schema.specs.WellFormed.{Places, Sinces, GoodField, GoodBlock}

module _ (known : Known) where
  -- the fields that are seen have their places within it
  length_behind : (v taken size : ℕ) (fs : List Field) → Places known taken size fs → taken ≤ size → taken ≤ length_at v size fs
  length_behind v taken size [] h l = l
  length_behind v taken size (f ∷ fs) h l =
      let begins = h.0 in
      let rest = length_behind v (field_end known f) size fs h.2 h.1 in
      ⊎_elim (λ a. rw a.0 (omega arith)) (λ a. rw a.0 begins) (leb_tells f.since v)

  pub length_within : (v taken size : ℕ) (fs : List Field) → Places known taken size fs → length_at v size fs ≤ size
  length_within v taken size [] h = omega arith
  length_within v taken size (f ∷ fs) h =
      let ends = h.1 in
      ⊎_elim (λ a. rw a.0 (length_within v (field_end known f) size fs h.2)) (λ a. rw a.0 (omega arith)) (leb_tells f.since v)

  pub places_at : (v taken size : ℕ) (fs : List Field) → Places known taken size fs → Places known taken (length_at v size fs) (seen_fields v fs)
  places_at v taken size [] h = tt
  places_at v taken size (f ∷ fs) h = ⊎_elim
      (λ a. rw a.0 (h.0, length_behind v (field_end known f) size fs h.2 h.1, places_at v (field_end known f) size fs h.2))
      (λ a. rw a.0 tt)
      (leb_tells f.since v)

  rises : (u v taken size : ℕ) (fs : List Field) → Places known taken size fs → u ≤ v → length_at u size fs ≤ length_at v size fs
  rises u v taken size [] h l = omega arith
  rises u v taken size (f ∷ fs) h l = ⊎_elim
      (λ a. rw (a.0, le-leb f.since v (omega arith)) (rises u v (field_end known f) size fs h.2 l))
      (λ a. ⊎_elim
      (λ b. let behind = length_behind v (field_end known f) size fs h.2 h.1 in rw (a.0, b.0) (omega arith))
      (λ b. rw (a.0, b.0) (omega arith))
      (leb_tells f.since v))
      (leb_tells f.since u)

  pub lengths_rise : (version : ℕ) (b : Block) → GoodBlock known version b → (u v : ℕ) → u ≤ v → length_at u b.size b.fields ≤ length_at v b.size b.fields
  lengths_rise version b g u v l = rises u v 0 b.size b.fields g.places l

-- ---- it is the declared length exactly if no field is newer

pub length_of_all : (v size : ℕ) (fs : List Field) → AllByRecursion (λ f. f.since ≤ v) fs → length_at v size fs ≡ size
length_of_all v size [] h = refl
length_of_all v size (f ∷ fs) h = rw (le-leb f.since v h.0) (length_of_all v size fs h.1)

pub sinces_all : (version before : ℕ) (fs : List Field) → Sinces version before (map (λ f. f.since) fs) → AllByRecursion (λ f. f.since ≤ version) fs
sinces_all version before [] h = tt
sinces_all version before (f ∷ fs) h = (h.1, sinces_all version f.since fs h.2)

-- where each kind has a width of 1 or more
module _ (known : Known) (lawful : AllLawful known) where
  all_of_length : (v taken size : ℕ) (fs : List Field) → AllByRecursion (GoodField known) fs → Places known taken size fs → length_at v size fs ≡ size → AllByRecursion (λ f. f.since ≤ v) fs
  all_of_length v taken size [] g h e = tt
  all_of_length v taken size (f ∷ fs) g h e =
      let wide : 1 ≤ g.0.kind.width = (lawful f.type f.argument g.0.kind g.0.known_type).least in
      let same : width_or_0 (known f.type f.argument) ≡ g.0.kind.width = ap width_or_0 g.0.known_type in
      let ends : field_end known f ≤ size = h.1 in
      ⊎_elim
      (λ a. (a.1, all_of_length v (field_end known f) size fs g.1 h.2 (rw a.0 at e)))
      (λ a. let here : f.offset ≡ size = rw a.0 at e in absurd (omega arith))
      (leb_tells f.since v)

  pub none_newer : (version : ℕ) (b : Block) → GoodBlock known version b → (v : ℕ) → length_at v b.size b.fields ≡ b.size → AllByRecursion (λ f. f.since ≤ v) b.fields
  none_newer version b g v e = all_of_length v 0 b.size b.fields g.fields g.places e
