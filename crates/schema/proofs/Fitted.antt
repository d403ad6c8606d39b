-- A template is good exactly if its names are, its places are, and each number of its lines has room.
use Rattle.std.proofs.Common.{◌≡◌, ℕ, ◌^◌, ◌<◌, ◌≤◌, true, List, [], ◌∷◌, ◌++◌, map, length, Some, None, Option, sym, refl, ap, subst, arith}
use Rattle.std.specs.List.{flat_map, AllByRecursion}
use Rattle.std.proofs.ByRecursion.{All-weaker}
use Rattle.std.proofs.lemmas.Bool.{false≢true}
use Rattle.types.specs.Kinds.{Kind, Known}
use Rattle.schema.specs.Structure.{Field, Block, Group, Data, Template}
use Rattle.schema.specs.Lines.{Line, field, end, part}
use Rattle.schema.specs.Geometry.{is_known, kind_of}
use Rattle.schema.specs.Writing.{group_lines, template_lines}
use Rattle.schema.specs.WellFormed.{GoodField, GoodBlock, GoodGroup, GoodData, GoodTemplate, Distinct}
use Rattle.schema.proofs.Verdicts.{Iff}
use Rattle.schema.proofs.LineForms.{FitField, FitPart, FitLine}
use Rattle.schema.proofs.Ordered.{group_tail}
use Rattle.schema.proofs.Named.{GoodNames}
use Rattle.schema.proofs.Placed.{Typed, Measured, Laid, GoodPlaces}

-- ---- the lines of a template have room

abbrev FitGroup : Group → Type 0
FitGroup g = (g.tag < 2 ^ 32) × (g.block.size < 2 ^ 16) × AllByRecursion FitField g.block.fields

fit_fields : (fs : List Field) (ls : List Line) → Iff (AllByRecursion FitLine (map field fs ++ ls)) (AllByRecursion FitField fs × AllByRecursion FitLine ls)
fit_fields [] ls = ((λ h. (tt, h)), (λ h. h.1))
fit_fields (f ∷ fs) ls =
    let r = fit_fields fs ls in
    ((λ h. let k = r.0 h.1 in ((h.0, k.0), k.1)), (λ h. (h.0.0, r.1 (h.0.1, h.1))))

fit_groups : (gs : List Group) (ls : List Line) → Iff (AllByRecursion FitLine (flat_map group_lines gs ++ ls)) (AllByRecursion FitGroup gs × AllByRecursion FitLine ls)
fit_groups [] ls = ((λ h. (tt, h)), (λ h. h.1))
fit_groups (g ∷ gs) ls =
    let r = fit_groups gs ls in
    let x = fit_fields g.block.fields (end ∷ (flat_map group_lines gs ++ ls)) in
    subst (λ (ms : List Line). Iff (AllByRecursion FitLine ms) (AllByRecursion FitGroup (g ∷ gs) × AllByRecursion FitLine ls)) (sym (group_tail g gs ls)) (
      (λ h. let k = x.0 h.1 in let m = r.0 k.1.1 in (((h.0.0, h.0.1, k.0), m.0), m.1)),
      (λ h. ((h.0.0.0, h.0.0.1), x.1 (h.0.0.2, (tt, r.1 (h.0.1, h.1))))),
    )

fit_parts : (ds : List Data) → Iff (AllByRecursion FitLine (map part ds)) (AllByRecursion FitPart ds)
fit_parts [] = ((λ h. h), (λ h. h))
fit_parts (d ∷ ds) =
    let r = fit_parts ds in
    ((λ h. (h.0, r.0 h.1)), (λ h. (h.0, r.1 h.1)))

abbrev FitTemplate : Template → Type 0
FitTemplate t = AllByRecursion FitField t.root.fields × (AllByRecursion FitGroup t.groups × AllByRecursion FitPart t.parts)

fit_iff : (t : Template) → Iff (AllByRecursion FitLine (template_lines t)) (FitTemplate t)
fit_iff t =
    let a = fit_fields t.root.fields (flat_map group_lines t.groups ++ map part t.parts) in
    let b = fit_groups t.groups (map part t.parts) in
    let c = fit_parts t.parts in (
      (λ h. let k = a.0 h in let m = b.0 k.1 in (k.0, (m.0, c.0 m.1))),
      (λ h. a.1 (h.0, b.1 (h.1.0, c.1 h.1.1))),
    )

-- ---- good fields, blocks, groups and data

-- two facts of each element give a third
all_pair : {X : Type 0} (P Q R : X → Type 0) → ((x : X) → P x → Q x → R x) → (xs : List X) → AllByRecursion P xs → AllByRecursion Q xs → AllByRecursion R xs
all_pair P Q R f [] h k = tt
all_pair P Q R f (x ∷ xs) h k = (f x h.0 k.0, all_pair P Q R f xs h.1 k.1)

known_kind : (o : Option Kind) → is_known o ≡ true → (k : Kind) × (o ≡ Some k)
known_kind None e = absurd (false≢true e)
known_kind (Some k) e = (k, refl)

abbrev Inner : Group → Type 0
Inner g = (length g.block.fields ≤ 64) × Distinct (map (λ f. f.tag) g.block.fields)

module _ (known : Known) (version : ℕ) where
  good_field : (f : Field) → Typed known f → FitField f → GoodField known f
  good_field f h k =
      let x = known_kind (kind_of known f) h.0 in
      record { kind = x.0; known_type = x.1; presence = h.1; tag_fits = k.0; offset_fits = k.1; since_fits = k.2; type_fits = k.3; argument_fits = k.5; argument_bytes = k.6 }

  field_typed : (f : Field) → GoodField known f → Typed known f
  field_typed f h = (ap is_known h.known_type, h.presence)

  field_fit : (f : Field) → GoodField known f → FitField f
  field_fit f h = let l = h.presence in (h.tag_fits, h.offset_fits, h.since_fits, h.type_fits, omega arith, h.argument_fits, h.argument_bytes)

  good_block : (b : Block) → b.size ≤ 16372 → length b.fields ≤ 64 → Laid known version b → AllByRecursion FitField b.fields → GoodBlock known version b
  good_block b s l h k =
      record { size_fits = s; few = l; fields = all_pair (Typed known) FitField (GoodField known) good_field b.fields h.0 k; places = h.1; sinces = h.2 }

  block_laid : (b : Block) → GoodBlock known version b → Laid known version b
  block_laid b h = (All-weaker (GoodField known) (Typed known) field_typed b.fields h.fields, h.places, h.sinces)

  block_fit : (b : Block) → GoodBlock known version b → AllByRecursion FitField b.fields
  block_fit b h = All-weaker (GoodField known) FitField field_fit b.fields h.fields

  abbrev LaidGroup : Group → Type 0
  LaidGroup g = (g.block.size ≤ 16372) × Laid known version g.block

  good_groups : (gs : List Group) → AllByRecursion Inner gs → AllByRecursion LaidGroup gs → AllByRecursion FitGroup gs → AllByRecursion (GoodGroup known version) gs
  good_groups gs n l f =
      all_pair (λ g. Inner g × LaidGroup g) FitGroup (GoodGroup known version)
      (λ g h k. record { tag_fits = k.0; block = good_block g.block h.1.0 h.0.0 h.1.1 k.2; tags = h.0.1 })
      gs (all_pair Inner LaidGroup (λ g. Inner g × LaidGroup g) (λ g h k. (h, k)) gs n l) f

  good_data : (d : Data) → Measured d → FitPart d → GoodData d
  good_data d h k = record { tag_fits = k.0; since_fits = k.1; least = h.0; most = h.1; one_byte = k.3 }

  pub good_template : (t : Template) → t.number < 2 ^ 16 → t.since ≤ version → t.root.size ≤ 16372 → GoodNames t → GoodPlaces known version t → AllByRecursion FitLine (template_lines t) → GoodTemplate known version t
  good_template t n s z names places fits =
      let f = (fit_iff t).0 fits in
      record {
        number_fits = n;
        since = s;
        root = good_block t.root z names.few places.root f.0;
        groups = good_groups t.groups names.inner places.groups f.1.0;
        few_groups = names.few_groups;
        parts = all_pair Measured FitPart GoodData good_data t.parts places.parts f.1.1;
        few_parts = names.few_parts;
        part_sinces = places.part_sinces;
        tags = names.tags;
      }

  pub template_names : (t : Template) → GoodTemplate known version t → GoodNames t
  template_names t h =
      record {
        few = h.root.few;
        inner = All-weaker (GoodGroup known version) Inner (λ g k. (k.block.few, k.tags)) t.groups h.groups;
        few_groups = h.few_groups;
        few_parts = h.few_parts;
        tags = h.tags;
      }

  pub template_places : (t : Template) → GoodTemplate known version t → GoodPlaces known version t
  template_places t h =
      record {
        root = block_laid t.root h.root;
        groups = All-weaker (GoodGroup known version) LaidGroup (λ g k. (k.block.size_fits, block_laid g.block k.block)) t.groups h.groups;
        parts = All-weaker GoodData Measured (λ d k. (k.least, k.most)) t.parts h.parts;
        part_sinces = h.part_sinces;
      }

  pub template_fits : (t : Template) → GoodTemplate known version t → AllByRecursion FitLine (template_lines t)
  template_fits t h =
      (fit_iff t).1 (
        block_fit t.root h.root,
        (
          All-weaker (GoodGroup known version) FitGroup (λ g k. let l = k.block.size_fits in (k.tag_fits, omega arith, block_fit g.block k.block)) t.groups h.groups,
          All-weaker GoodData FitPart (λ d k. let l = k.most in (k.tag_fits, k.since_fits, omega arith, k.one_byte)) t.parts h.parts,
        ),
      )
