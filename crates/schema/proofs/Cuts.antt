-- A list cut at its first element that is newer than a version: the fields of a block and the data of a template alike.
use Rattle.std.proofs.Common.{◌≡◌, ℕ, ◌<◌, ◌≤◌, min, cond, leb, List, [], ◌∷◌, map, filter, refl, ap, ◌∙◌, ⊎_elim, arith}
use Rattle.std.proofs.lemmas.Bool.{le-leb, lt-leb}
use Rattle.std.proofs.lemmas.Bool.Decides.{leb_tells}
use Rattle.schema.specs.Structure.{Field, Data}
use Rattle.schema.specs.Seen.{seen_fields, seen_parts}
use Rattle.schema.specs.WellFormed.{Sinces}

-- `cut v` keeps what stands in front of the first element with since above v
pub record Cuts {X : Type 0} (since : X → ℕ) (cut : ℕ → List X → List X) : Type 0 where
  pub none : (v : ℕ) → cut v [] ≡ []
  pub more : (v : ℕ) (x : X) (xs : List X) → cut v (x ∷ xs) ≡ cond (leb (since x) v) (x ∷ cut v xs) []

pub fields_cut : Cuts (λ (f : Field). f.since) seen_fields
fields_cut = record { none = λ v. refl; more = λ v x xs. refl }

pub parts_cut : Cuts (λ (d : Data). d.since) seen_parts
parts_cut = record { none = λ v. refl; more = λ v x xs. refl }

module _ {X : Type 0} {since : X → ℕ} {cut : ℕ → List X → List X} (c : Cuts since cut) where
  pub cut_goes : (v : ℕ) (x : X) (xs : List X) → since x ≤ v → cut v (x ∷ xs) ≡ x ∷ cut v xs
  cut_goes v x xs h = c.more v x xs ∙ rw (le-leb (since x) v h)

  pub cut_stops : (v : ℕ) (x : X) (xs : List X) → v < since x → cut v (x ∷ xs) ≡ []
  cut_stops v x xs h = c.more v x xs ∙ rw (lt-leb (since x) v h)

  -- cut at v and then at u is cut at the lesser
  pub cut_twice : (u v : ℕ) (xs : List X) → cut u (cut v xs) ≡ cut (min u v) xs
  cut_twice u v [] = rw (c.none v, c.none u, c.none (min u v))
  cut_twice u v (x ∷ xs) = ⊎_elim
      (λ a. ⊎_elim
      (λ b. rw (cut_goes v x xs a.1, cut_goes u x (cut v xs) b.1, cut_goes (min u v) x xs (omega arith)) (ap (λ r. x ∷ r) (cut_twice u v xs)))
      (λ b. rw (cut_goes v x xs a.1, cut_stops u x (cut v xs) b.1, cut_stops (min u v) x xs (omega arith)))
      (leb_tells (since x) u))
      (λ a. rw (cut_stops v x xs a.1, c.none u, cut_stops (min u v) x xs (omega arith)))
      (leb_tells (since x) v)

  -- where since never falls, nothing with since at most v stands behind the first that is newer
  none_kept : (version before v : ℕ) (xs : List X) → v < before → Sinces version before (map since xs) → filter (λ x. leb (since x) v) xs ≡ []
  none_kept version before v [] l h = refl
  none_kept version before v (x ∷ xs) l h =
      let m = h.0 in
      rw (lt-leb (since x) v (omega arith)) (none_kept version (since x) v xs (omega arith) h.2)

  -- so the cut keeps all with since at most v
  pub cut_keeps : (version before v : ℕ) (xs : List X) → Sinces version before (map since xs) → cut v xs ≡ filter (λ x. leb (since x) v) xs
  cut_keeps version before v [] h = c.none v
  cut_keeps version before v (x ∷ xs) h = ⊎_elim
      (λ a. rw (cut_goes v x xs a.1, a.0) (ap (λ r. x ∷ r) (cut_keeps version (since x) v xs h.2)))
      (λ a. rw (cut_stops v x xs a.1, none_kept version (since x) v xs a.1 h.2, a.0))
      (leb_tells (since x) v)

  -- at the version the cut keeps everything
  pub cut_all : (version before : ℕ) (xs : List X) → Sinces version before (map since xs) → cut version xs ≡ xs
  cut_all version before [] h = c.none version
  cut_all version before (x ∷ xs) h = rw (cut_goes version x xs h.1) (ap (λ r. x ∷ r) (cut_all version (since x) xs h.2))

  -- what is kept has since at most v
  pub cut_sinces : (version before v : ℕ) (xs : List X) → Sinces version before (map since xs) → Sinces v before (map since (cut v xs))
  cut_sinces version before v [] h = rw (c.none v) tt
  cut_sinces version before v (x ∷ xs) h = ⊎_elim
      (λ a. rw (cut_goes v x xs a.1) (h.0, a.1, cut_sinces version (since x) v xs h.2))
      (λ a. rw (cut_stops v x xs a.1) tt)
      (leb_tells (since x) v)
