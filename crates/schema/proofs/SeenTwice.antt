-- What is seen at one version of what is seen at another, and what of a list is seen.
use Rattle.std.proofs.Common.{◌≡◌, ℕ, min, leb, List, [], ◌∷◌, map, filter, refl, ap₂, ⊎_elim, arith}
use Rattle.std.proofs.lemmas.Bool.{le-leb, lt-leb}
use Rattle.std.proofs.lemmas.Bool.Decides.{leb_tells}
use Rattle.types.specs.Kinds.{Known}
use Rattle.schema.specs.Structure.{Field, Block, Group, Template}
use Rattle.schema.specs.Seen.{seen_fields, seen_parts, length_at, seen_block, seen_group, seen_template, seen}
use Rattle.schema.specs.WellFormed.{GoodBlock, GoodTemplate}
use Rattle.schema.proofs.Cuts.{fields_cut, parts_cut, cut_twice, cut_keeps}

-- ---- seen at v and then at u is seen at the lesser

module _ (u v : ℕ) where
  length_twice : (size : ℕ) (fs : List Field) → length_at u (length_at v size fs) (seen_fields v fs) ≡ length_at (min u v) size fs
  length_twice size [] = refl
  length_twice size (f ∷ fs) = ⊎_elim
      (λ a. ⊎_elim
      (λ b. rw (a.0, b.0, le-leb f.since (min u v) (omega arith)) (length_twice size fs))
      (λ b. rw (a.0, b.0, lt-leb f.since (min u v) (omega arith)))
      (leb_tells f.since u))
      (λ a. rw (a.0, lt-leb f.since (min u v) (omega arith)))
      (leb_tells f.since v)

  block_twice : (b : Block) → seen_block u (seen_block v b) ≡ seen_block (min u v) b
  block_twice b = λ i. record { size = length_twice b.size b.fields i; fields = cut_twice fields_cut u v b.fields i }

  groups_twice : (gs : List Group) → map (seen_group u) (map (seen_group v) gs) ≡ map (seen_group (min u v)) gs
  groups_twice [] = refl
  groups_twice (g ∷ gs) = λ i. record { tag = g.tag; block = block_twice g.block i } ∷ groups_twice gs i

  template_twice : (t : Template) → seen_template u (seen_template v t) ≡ seen_template (min u v) t
  template_twice t = λ i. record { number = t.number; since = t.since; root = block_twice t.root i; groups = groups_twice t.groups i; parts = cut_twice parts_cut u v t.parts i }

  pub seen_twice : (ts : List Template) → seen u (seen v ts) ≡ seen (min u v) ts
  seen_twice [] = refl
  seen_twice (t ∷ ts) = ⊎_elim
      (λ a. ⊎_elim
      (λ b. rw (a.0, b.0, le-leb t.since (min u v) (omega arith)) (ap₂ (λ x xs. x ∷ xs) (template_twice t) (seen_twice ts)))
      (λ b. rw (a.0, b.0, lt-leb t.since (min u v) (omega arith)) (seen_twice ts))
      (leb_tells t.since u))
      (λ a. rw (a.0, lt-leb t.since (min u v) (omega arith)) (seen_twice ts))
      (leb_tells t.since v)

-- ---- what is seen is all with since at most the version, since it never falls

pub seen_keeps : (known : Known) (version : ℕ) (b : Block) → GoodBlock known version b → (v : ℕ) → seen_fields v b.fields ≡ filter (λ f. leb f.since v) b.fields
seen_keeps known version b g v = cut_keeps fields_cut version 0 v b.fields g.sinces

pub seen_keeps_parts : (known : Known) (version : ℕ) (t : Template) → GoodTemplate known version t → (v : ℕ) → seen_parts v t.parts ≡ filter (λ d. leb d.since v) t.parts
seen_keeps_parts known version t g v = cut_keeps parts_cut version 0 v t.parts g.part_sinces
