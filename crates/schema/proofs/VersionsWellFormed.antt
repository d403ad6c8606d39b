-- What is seen of a well-formed dictionary is well formed.
use Rattle.std.proofs.Common.{◌≡◌, ℕ, ◌+◌, ◌≤◌, List, [], ◌∷◌, map, length, sym, refl, ap, subst, ⊎_elim, arith}
use Rattle.std.proofs.lemmas.Bool.Decides.{leb_tells}
use Rattle.types.specs.Kinds.{Known}
use Rattle.schema.specs.Structure.{Field, Block, Group, Data, Template, Dictionary}
use Rattle.schema.specs.Lines.{Line, field, end, part}
use Rattle.schema.specs.Seen.{seen_fields, seen_parts, seen_block, seen_group, seen_template, seen, edition_at}
use Rattle.schema.specs.Writing.{line_bytes, group_lines, template_lines, template_body, template_bytes, templates_bytes, dictionary_bytes}
use Rattle.schema.specs.WellFormed.{GoodField, GoodBlock, GoodGroup, GoodData, GoodTemplate, outer_tags, Numbered, WellFormed}
use Rattle.schema.proofs.Cuts.{Cuts, fields_cut, parts_cut, cut_goes, cut_stops, cut_sinces}
use Rattle.schema.proofs.Picks.{Picks, over, kept, left, picks_none, picks_append, picks_length, picks_map, picks_all, picks_joined, picks_shorter, picks_mapped, picks_same, picks_distinct}
use Rattle.schema.proofs.Lengths.{length_within, places_at}

-- ---- what is seen are some of the lines, in their order

pub cut_picks : {X : Type 0} {since : X → ℕ} {cut : ℕ → List X → List X} → Cuts since cut → (v : ℕ) (xs : List X) → Picks ◌≡◌ (cut v xs) xs
cut_picks c v [] = rw (c.none v) over
cut_picks {X} {since} c v (x ∷ xs) = ⊎_elim
    (λ a. rw (cut_goes c v x xs a.1) (kept refl (cut_picks c v xs)))
    (λ a. rw (cut_stops c v x xs a.1) (picks_none (x ∷ xs)))
    (leb_tells (since x) v)

-- a line's bytes are not more than another's
abbrev NotLonger : Line → Line → Type 0
NotLonger l m = length (line_bytes l) ≤ length (line_bytes m)

module _ (v : ℕ) where
  pub fields_picks : (fs : List Field) → Picks ◌≡◌ (seen_fields v fs) fs
  fields_picks fs = cut_picks fields_cut v fs

  pub parts_picks : (ds : List Data) → Picks ◌≡◌ (seen_parts v ds) ds
  parts_picks ds = cut_picks parts_cut v ds

  pub seen_picks : (ts : List Template) → Picks (λ x y. (x ≡ seen_template v y) × (y.since ≤ v)) (seen v ts) ts
  seen_picks [] = over
  seen_picks (t ∷ ts) = ⊎_elim
      (λ a. rw a.0 (kept (refl, a.1) (seen_picks ts)))
      (λ a. rw a.0 (left (seen_picks ts)))
      (leb_tells t.since v)

  -- their tags

  field_tags_picks : (fs : List Field) → Picks ◌≡◌ (map (λ f. f.tag) (seen_fields v fs)) (map (λ f. f.tag) fs)
  field_tags_picks fs = picks_map ◌≡◌ (λ f. f.tag) (λ f. f.tag) (λ x y e. ap (λ f. f.tag) e) (fields_picks fs)

  outer_tags_picks : (t : Template) → Picks ◌≡◌ (outer_tags (seen_template v t)) (outer_tags t)
  outer_tags_picks t =
      picks_append (field_tags_picks t.root.fields)
      (picks_append
      (picks_map ◌≡◌ (λ g. g.tag) (λ g. g.tag) (λ x y e. ap (λ g. g.tag) e) (picks_mapped (seen_group v) t.groups))
      (picks_map ◌≡◌ (λ d. d.tag) (λ d. d.tag) (λ x y e. ap (λ d. d.tag) e) (parts_picks t.parts)))

  -- their bytes are not more

  field_lines_picks : (fs : List Field) → Picks NotLonger (map field (seen_fields v fs)) (map field fs)
  field_lines_picks fs = picks_map NotLonger field field (λ x y e. rw e (omega arith)) (fields_picks fs)

  group_lines_picks : (g : Group) → Picks NotLonger (group_lines (seen_group v g)) (group_lines g)
  group_lines_picks g = kept (omega arith) (picks_append (field_lines_picks g.block.fields) (picks_same NotLonger (λ x. omega arith) (end ∷ [])))

  template_lines_picks : (t : Template) → Picks NotLonger (template_lines (seen_template v t)) (template_lines t)
  template_lines_picks t =
      picks_append (field_lines_picks t.root.fields)
      (picks_append
      (picks_joined group_lines NotLonger (λ x y e. rw e (group_lines_picks y)) (picks_mapped (seen_group v) t.groups))
      (picks_map NotLonger part part (λ x y e. omega arith) (parts_picks t.parts)))

  template_shorter : (t : Template) → length (template_bytes (seen_template v t)) ≤ length (template_bytes t)
  template_shorter t =
      let body : length (template_body (seen_template v t)) ≤ length (template_body t) = picks_shorter line_bytes (λ x y l. l) (template_lines_picks t) in
      omega arith

  pub edition_shorter : (d : Dictionary) → length (dictionary_bytes (edition_at v d)) ≤ length (dictionary_bytes d)
  edition_shorter d =
      let rest : length (templates_bytes (seen v d.templates)) ≤ length (templates_bytes d.templates) = picks_shorter template_bytes (λ x y r. rw r.0 (template_shorter y)) (seen_picks d.templates) in
      omega arith

-- ---- what is seen of each part is well formed

module _ (known : Known) (version v : ℕ) where
  pub good_block_at : (b : Block) → GoodBlock known version b → GoodBlock known v (seen_block v b)
  good_block_at b g =
      let within = length_within known v 0 b.size b.fields g.places in
      let fits = g.size_fits in
      let picks = fields_picks v b.fields in
      let shorter = picks_length picks in
      let few = g.few in
      record {
        size_fits = omega arith;
        few = omega arith;
        fields = picks_all (GoodField known) (GoodField known) (λ x y e h. rw e h) picks g.fields;
        places = places_at known v 0 b.size b.fields g.places;
        sinces = cut_sinces fields_cut version 0 v b.fields g.sinces;
      }

  pub good_group_at : (g : Group) → GoodGroup known version g → GoodGroup known v (seen_group v g)
  good_group_at g h = record {
    tag_fits = h.tag_fits;
    block = good_block_at g.block h.block;
    tags = picks_distinct (field_tags_picks v g.block.fields) h.tags;
  }

  pub good_template_at : (t : Template) → t.since ≤ v → GoodTemplate known version t → GoodTemplate known v (seen_template v t)
  good_template_at t l g =
      let groups = picks_mapped (seen_group v) t.groups in
      let parts = parts_picks v t.parts in
      let fewer_groups = picks_length groups in
      let fewer_parts = picks_length parts in
      let few_groups = g.few_groups in
      let few_parts = g.few_parts in
      record {
        number_fits = g.number_fits;
        since = l;
        root = good_block_at t.root g.root;
        groups = picks_all (GoodGroup known version) (GoodGroup known v) (λ x y e h. subst (GoodGroup known v) (sym e) (good_group_at y h)) groups g.groups;
        few_groups = omega arith;
        parts = picks_all GoodData GoodData (λ x y e h. rw e h) parts g.parts;
        few_parts = omega arith;
        part_sinces = cut_sinces parts_cut version 0 v t.parts g.part_sinces;
        tags = picks_distinct (outer_tags_picks v t) g.tags;
      }

-- numbers rise over what is left
pub numbered_from : (least most : ℕ) (ts : List Template) → least ≤ most → Numbered most ts → Numbered least ts
numbered_from least most [] l h = tt
numbered_from least most (t ∷ ts) l h = let m = h.0 in (omega arith, h.1)

pub numbered_at : (v least : ℕ) (ts : List Template) → Numbered least ts → Numbered least (seen v ts)
numbered_at v least [] h = tt
numbered_at v least (t ∷ ts) h =
    let m = h.0 in
    let rest = numbered_at v (t.number + 1) ts h.1 in
    ⊎_elim
    (λ a. rw a.0 (h.0, rest))
    (λ a. rw a.0 (numbered_from least (t.number + 1) (seen v ts) (omega arith) rest))
    (leb_tells t.since v)

pub well_formed_at : (known : Known) (d : Dictionary) → WellFormed known d → (v : ℕ) → v ≤ d.version → WellFormed known (edition_at v d)
well_formed_at known d w v l =
    let fits = w.version_fits in
    let shorter = edition_shorter v d in
    let short = w.short in
    record {
      layout = w.layout;
      schema_fits = w.schema_fits;
      version_fits = omega arith;
      numbers = numbered_at v 0 d.templates w.numbers;
      templates = picks_all (GoodTemplate known d.version) (GoodTemplate known v) (λ x y r h. subst (GoodTemplate known v) (sym r.0) (good_template_at known d.version v y r.1 h)) (seen_picks v d.templates) w.templates;
      short = omega arith;
    }
