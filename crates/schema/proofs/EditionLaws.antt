-- How editions of a dictionary stand to one another, and what is found in them.
use Rattle.std.proofs.Common.{◌≡◌, ℕ, ◌+◌, ◌<◌, ◌≤◌, min, cond, leb, List, [], ◌∷◌, map, Some, None, Option, sym, refl, ap, ◌∙◌, subst, ap₂, ⊎_elim, arith}
use Rattle.std.specs.List.{AllByRecursion}
use Rattle.std.proofs.lemmas.Bool.{le-leb, ne_eqb}
use Rattle.std.proofs.lemmas.Bool.Decides.{leb_tells, eqb_tells}
use Rattle.types.specs.Kinds.{Known}
use Rattle.schema.specs.Structure.{Block, Group, Template, Dictionary}
use Rattle.schema.specs.Seen.{seen_block, seen_group, seen_template, seen, edition_at, find, template_at}
use Rattle.schema.specs.WellFormed.{GoodBlock, GoodGroup, GoodTemplate, Numbered, WellFormed}
use Rattle.schema.specs.Editions.{EarlierEdition}
use Rattle.schema.proofs.Cuts.{fields_cut, parts_cut, cut_all}
use Rattle.schema.proofs.SeenTwice.{seen_twice}
use Rattle.schema.proofs.Lengths.{length_of_all, sinces_all}
use Rattle.schema.proofs.VersionsWellFormed.{numbered_at, well_formed_at}

-- ---- a dictionary seen at its own version is itself

module _ (known : Known) (version : ℕ) where
  block_whole : (b : Block) → GoodBlock known version b → seen_block version b ≡ b
  block_whole b g =
      let size = length_of_all version b.size b.fields (sinces_all version 0 b.fields g.sinces) in
      λ i. record { size = size i; fields = cut_all fields_cut version 0 b.fields g.sinces i }

  groups_whole : (gs : List Group) → AllByRecursion (GoodGroup known version) gs → map (seen_group version) gs ≡ gs
  groups_whole [] h = refl
  groups_whole (g ∷ gs) h = λ i. record { tag = g.tag; block = block_whole g.block h.0.block i } ∷ groups_whole gs h.1 i

  template_whole : (t : Template) → GoodTemplate known version t → seen_template version t ≡ t
  template_whole t g = λ i. record { number = t.number; since = t.since; root = block_whole t.root g.root i; groups = groups_whole t.groups g.groups i; parts = cut_all parts_cut version 0 t.parts g.part_sinces i }

  pub seen_whole : (ts : List Template) → AllByRecursion (GoodTemplate known version) ts → seen version ts ≡ ts
  seen_whole [] h = refl
  seen_whole (t ∷ ts) h = rw (le-leb t.since version h.0.since) (ap₂ (λ x xs. x ∷ xs) (template_whole t h.0) (seen_whole ts h.1))

pub well_formed_itself : (known : Known) (d : Dictionary) → WellFormed known d → EarlierEdition d d
well_formed_itself known d w = record { schema = refl; version = omega arith; templates = seen_whole known d.version d.templates w.templates }

-- ---- editions

pub earlier_at : (d : Dictionary) (v : ℕ) → v ≤ d.version → EarlierEdition (edition_at v d) d
earlier_at d v l = record { schema = refl; version = l; templates = refl }

-- at any version an earlier edition shows what the later one shows at it, or at the earlier one's version if that is less
pub shows_at : (e d : Dictionary) → EarlierEdition e d → (u : ℕ) → seen u e.templates ≡ seen (min u e.version) d.templates
shows_at e d x u = ap (seen u) (sym x.templates) ∙ seen_twice u e.version d.templates

pub shows_the_same : (e d : Dictionary) → EarlierEdition e d → (u : ℕ) → u ≤ e.version → seen u e.templates ≡ seen u d.templates
shows_the_same e d x u l = shows_at e d x u ∙ ap (λ n. seen n d.templates) (omega arith)

pub transitive : (c e d : Dictionary) → EarlierEdition c e → EarlierEdition e d → EarlierEdition c d
transitive c e d x y =
    let low = x.version in
    let high = y.version in
    record { schema = x.schema ∙ y.schema; version = omega arith; templates = sym (shows_the_same e d y c.version low) ∙ x.templates }

-- ---- what is found

-- a template that was found, as seen at v, if it is not newer
abbrev pub found_at : ℕ → Option Template → Option Template
found_at v None = None
found_at v (Some t) = cond (leb t.since v) (Some (seen_template v t)) None

pub find_below : (n least : ℕ) (ts : List Template) → n < least → Numbered least ts → find n ts ≡ None
find_below n least [] l h = refl
find_below n least (t ∷ ts) l h =
    let m = h.0 in
    rw (ne_eqb t.number n (λ e. omega arith)) (find_below n (t.number + 1) ts (omega arith) h.1)

pub find_seen : (v n least : ℕ) (ts : List Template) → Numbered least ts → find n (seen v ts) ≡ found_at v (find n ts)
find_seen v n least [] h = refl
find_seen v n least (t ∷ ts) h =
    let rest = find_seen v n (t.number + 1) ts h.1 in
    ⊎_elim
    (λ a. ⊎_elim
    (λ b. rw (b.0, a.0, b.0))
    (λ b. rw (a.0, b.0) rest)
    (eqb_tells t.number n))
    (λ a. ⊎_elim
    (λ b. rw (b.0, a.0) (find_below n (t.number + 1) (seen v ts) (omega arith) (numbered_at v (t.number + 1) ts h.1)))
    (λ b. rw (b.0, a.0) rest)
    (eqb_tells t.number n))
    (leb_tells t.since v)

pub template_at_earlier : (e d : Dictionary) → EarlierEdition e d → (n u : ℕ) → u ≤ e.version → template_at e n u ≡ template_at d n u
template_at_earlier e d x n u l = ap (find n) (shows_the_same e d x u l)

-- what holds of each template holds of the one that is found, and it has that number
pub find_holds : (P : Template → Type 0) (n : ℕ) (ts : List Template) (t : Template) → AllByRecursion P ts → find n ts ≡ Some t → P t × (t.number ≡ n)
find_holds P n [] t h e = let z : ◌≡◌ {A = ℕ} 0 1 = cc in absurd (omega arith)
find_holds P n (x ∷ ts) t h e = ⊎_elim
    (λ a. let q : Some x ≡ Some t = rw a.0 at e in let r : x ≡ t = cc in (subst P r h.0, ap (λ y. y.number) (sym r) ∙ a.1))
    (λ a. find_holds P n ts t h.1 (rw a.0 at e))
    (eqb_tells x.number n)

pub template_at_good : (known : Known) (d : Dictionary) → WellFormed known d → (n v : ℕ) → v ≤ d.version → (t : Template) → template_at d n v ≡ Some t → GoodTemplate known v t × (t.number ≡ n)
template_at_good known d w n v l t e = find_holds (GoodTemplate known v) n (seen v d.templates) t (well_formed_at known d w v l).templates e
