-- A template's lines pass as to types and geometry exactly if each type is known and each field has its place.
use Rattle.std.proofs.Common.{◌≡◌, ℕ, ◌+◌, ◌≤◌, true, ◌&&◌, leb, List, [], ◌∷◌, ◌++◌, map, Decides, sym, refl, subst}
use Rattle.std.specs.List.{flat_map, AllByRecursion}
use Rattle.std.proofs.lemmas.Bool.Decides.{Decides-and}
use Rattle.wire.specs.declared.refusal.Reason.TheVariants as reason
use Rattle.wire.specs.Refusals.{refusal}
use Rattle.types.specs.Kinds.{Known}
use Rattle.schema.specs.Verdicts.{fine, rule}
use Rattle.schema.specs.Structure.{Field, Block, Group, Data, Template}
use Rattle.schema.specs.Lines.{Line, field, group, end, part, line_size}
use Rattle.schema.specs.Geometry.{Ground, block_ground, block_fits, since_fits, is_known, kind_of, field_end, well_typed, longest_fits, well_placed, ground_past, line_verdict, lines_geometry}
use Rattle.schema.specs.Writing.{group_lines, template_lines}
use Rattle.schema.specs.WellFormed.{Sinces, Places}
use Rattle.schema.proofs.Verdicts.{Iff, rule_iff, then_iff, iff_tt, iff_regroup, decides_leb}
use Rattle.schema.proofs.Ordered.{group_tail}

abbrev ground : ℕ → ℕ → ℕ → ℕ → Ground
ground size taken since part_since = record { size = size; taken = taken; since = since; part_since = part_since }

abbrev pub Typed : Known → Field → Type 0
Typed known f = (is_known (kind_of known f) ≡ true) × (f.presence ≤ 1)

abbrev pub Measured : Data → Type 0
Measured d = (1 ≤ d.longest) × (d.longest ≤ 254)

module _ (known : Known) (version : ℕ) where
  -- a block's fields have their places, as the block says them
  abbrev pub Laid : Block → Type 0
  Laid b = AllByRecursion (Typed known) b.fields × Places known 0 b.size b.fields × Sinces version 0 (map (λ f. f.since) b.fields)

  pub record GoodPlaces (t : Template) : Type 0 where
    pub root : Laid t.root
    pub groups : AllByRecursion (λ g. (g.block.size ≤ 16372) × Laid g.block) t.groups
    pub parts : AllByRecursion Measured t.parts
    pub part_sinces : Sinces version 0 (map (λ d. d.since) t.parts)

  decides_since : (before since : ℕ) → Decides (since_fits version before since) ((before ≤ since) × (since ≤ version))
  decides_since before since = Decides-and (leb before since) (leb since version) (decides_leb before since) (decides_leb since version)

  step_iff : {P R : Type 0} (g : Ground) (p : ℕ) (l : Line) (ls : List Line) → Iff (line_verdict known version g p l ≡ fine) P → Iff (lines_geometry known version (ground_past known g l) (p + line_size l) ls ≡ fine) R → Iff (lines_geometry known version g p (l ∷ ls) ≡ fine) (P × R)
  step_iff g p l ls i j = then_iff (line_verdict known version g p l) (lines_geometry known version (ground_past known g l) (p + line_size l) ls) i j

  -- ---- fields

  abbrev PlacedField : ℕ → ℕ → ℕ → Field → Type 0
  PlacedField taken since size f = Typed known f × (((taken ≤ f.offset) × (field_end known f ≤ size)) × ((since ≤ f.since) × (f.since ≤ version)))

  abbrev Placed : ℕ → ℕ → ℕ → List Field → Type 0
  Placed taken since size [] = Unit {0}
  Placed taken since size (f ∷ fs) = PlacedField taken since size f × Placed (field_end known f) f.since size fs

  placed_iff : (fs : List Field) (taken since size : ℕ) → Iff (Placed taken since size fs) (AllByRecursion (Typed known) fs × Places known taken size fs × Sinces version since (map (λ f. f.since) fs))
  placed_iff [] taken since size = ((λ _. (tt, tt, tt)), (λ _. tt))
  placed_iff (f ∷ fs) taken since size =
      let r = placed_iff fs (field_end known f) f.since size in (
        (λ h. let k = r.0 h.1 in ((h.0.0, k.0), (h.0.1.0.0, h.0.1.0.1, k.1), (h.0.1.1.0, h.0.1.1.1, k.2))),
        (λ h. ((h.0.0, ((h.1.0, h.1.1), (h.2.0, h.2.1))), r.1 (h.0.1, h.1.2, h.2.2))),
      )

  field_iff : (size taken since ps p : ℕ) (f : Field) → Iff (line_verdict known version (ground size taken since ps) p (field f) ≡ fine) (PlacedField taken since size f)
  field_iff size taken since ps p f =
      let g = ground size taken since ps in
      then_iff (rule (well_typed known f) reason.UnknownType p f.tag) (rule (well_placed known version g f) reason.LineGeometry p f.tag)
      (rule_iff (well_typed known f) (refusal reason.UnknownType p f.tag)
      (Decides-and (is_known (kind_of known f)) (leb f.presence 1) ((λ e. e), (λ e. e)) (decides_leb f.presence 1)))
      (rule_iff (well_placed known version g f) (refusal reason.LineGeometry p f.tag)
      (Decides-and (leb taken f.offset && leb (field_end known f) size) (since_fits version since f.since)
      (Decides-and (leb taken f.offset) (leb (field_end known f) size) (decides_leb taken f.offset) (decides_leb (field_end known f) size))
      (decides_since since f.since)))

  fields_geometry : (fs : List Field) (rest : List Line) (size taken since ps : ℕ) (Q : Type 0) → ((taken' since' p : ℕ) → Iff (lines_geometry known version (ground size taken' since' ps) p rest ≡ fine) Q) → (p : ℕ) → Iff (lines_geometry known version (ground size taken since ps) p (map field fs ++ rest) ≡ fine) (Placed taken since size fs × Q)
  fields_geometry [] rest size taken since ps Q k p = iff_tt (k taken since p)
  fields_geometry (f ∷ fs) rest size taken since ps Q k p =
      iff_regroup (step_iff (ground size taken since ps) p (field f) (map field fs ++ rest) (field_iff size taken since ps p f) (fields_geometry fs rest size (field_end known f) f.since ps Q k (p + line_size (field f))))

  -- ---- groups

  abbrev PlacedGroups : List Group → Type 0
  PlacedGroups [] = Unit {0}
  PlacedGroups (g ∷ gs) = ((g.block.size ≤ 16372) × Placed 0 0 g.block.size g.block.fields) × PlacedGroups gs

  groups_iff : (gs : List Group) → Iff (PlacedGroups gs) (AllByRecursion (λ g. (g.block.size ≤ 16372) × Laid g.block) gs)
  groups_iff [] = ((λ _. tt), (λ _. tt))
  groups_iff (g ∷ gs) =
      let x = placed_iff g.block.fields 0 0 g.block.size in
      let r = groups_iff gs in
      ((λ h. ((h.0.0, x.0 h.0.1), r.0 h.1)), (λ h. ((h.0.0, x.1 h.0.1), r.1 h.1)))

  groups_geometry : (gs : List Group) (rest : List Line) (size taken since ps : ℕ) (Q : Type 0) → ((size' taken' since' p : ℕ) → Iff (lines_geometry known version (ground size' taken' since' ps) p rest ≡ fine) Q) → (p : ℕ) → Iff (lines_geometry known version (ground size taken since ps) p (flat_map group_lines gs ++ rest) ≡ fine) (PlacedGroups gs × Q)
  groups_geometry [] rest size taken since ps Q k p = iff_tt (k size taken since p)
  groups_geometry (g ∷ gs) rest size taken since ps Q k p =
      let more : List Line = flat_map group_lines gs ++ rest in
      let fs = g.block.fields in
      let long = g.block.size in
      let next = λ (taken' since' p' : ℕ). groups_geometry gs rest long taken' since' ps Q k (p' + 2) in
      let inner = fields_geometry fs (end ∷ more) long 0 0 ps (PlacedGroups gs × Q) next (p + 8) in
      let body = step_iff (ground size taken since ps) p (group g.tag long) (map field fs ++ (end ∷ more)) (rule_iff (block_fits long) (refusal reason.LineGeometry p g.tag) (decides_leb long 16372)) inner in
      subst (λ (ls : List Line). Iff (lines_geometry known version (ground size taken since ps) p ls ≡ fine) (PlacedGroups (g ∷ gs) × Q)) (sym (group_tail g gs rest))
      (iff_regroup (iff_regroup body))

  -- ---- data

  abbrev PlacedParts : ℕ → List Data → Type 0
  PlacedParts since [] = Unit {0}
  PlacedParts since (d ∷ ds) = (Measured d × ((since ≤ d.since) × (d.since ≤ version))) × PlacedParts d.since ds

  parts_iff : (ds : List Data) (since : ℕ) → Iff (PlacedParts since ds) (AllByRecursion Measured ds × Sinces version since (map (λ d. d.since) ds))
  parts_iff [] since = ((λ _. (tt, tt)), (λ _. tt))
  parts_iff (d ∷ ds) since =
      let r = parts_iff ds d.since in (
        (λ h. let k = r.0 h.1 in ((h.0.0, k.0), (h.0.1.0, h.0.1.1, k.1))),
        (λ h. ((h.0.0, (h.1.0, h.1.1)), r.1 (h.0.1, h.1.2))),
      )

  parts_geometry : (ds : List Data) (size taken since ps p : ℕ) → Iff (lines_geometry known version (ground size taken since ps) p (map part ds) ≡ fine) (PlacedParts ps ds)
  parts_geometry [] size taken since ps p = ((λ _. tt), (λ _. refl))
  parts_geometry (d ∷ ds) size taken since ps p =
      step_iff (ground size taken since ps) p (part d) (map part ds)
      (then_iff (rule (longest_fits d) reason.UnknownType p d.tag) (rule (since_fits version ps d.since) reason.LineGeometry p d.tag)
      (rule_iff (longest_fits d) (refusal reason.UnknownType p d.tag) (Decides-and (leb 1 d.longest) (leb d.longest 254) (decides_leb 1 d.longest) (decides_leb d.longest 254)))
      (rule_iff (since_fits version ps d.since) (refusal reason.LineGeometry p d.tag) (decides_since ps d.since)))
      (parts_geometry ds size taken since d.since (p + 9))

  -- ---- templates

  pub places_iff : (t : Template) (p : ℕ) → Iff (lines_geometry known version (block_ground t.root.size 0) p (template_lines t) ≡ fine) (GoodPlaces t)
  places_iff t p =
      let fs = t.root.fields in
      let gs = t.groups in
      let ds = t.parts in
      let size = t.root.size in
      let all = fields_geometry fs (flat_map group_lines gs ++ map part ds) size 0 0 0 (PlacedGroups gs × PlacedParts 0 ds)
      (λ taken since. groups_geometry gs (map part ds) size taken since 0 (PlacedParts 0 ds) (λ size' taken' since'. parts_geometry ds size' taken' since' 0)) p in
      let a = placed_iff fs 0 0 size in
      let b = groups_iff gs in
      let c = parts_iff ds 0 in (
        (λ e.
            let k = all.0 e in
            let m = c.0 k.1.1 in
            record { root = a.0 k.0; groups = b.0 k.1.0; parts = m.0; part_sinces = m.1 }),
        (λ h. all.1 (a.1 h.root, (b.1 h.groups, c.1 (h.parts, h.part_sinces)))),
      )
