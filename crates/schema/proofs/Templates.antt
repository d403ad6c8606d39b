-- Sections pass exactly if they are good templates written out, and they are read as those.
use Rattle.std.proofs.Common.{◌≡◌, ℕ, suc, ◌+◌, ◌^◌, ◌<◌, ◌≤◌, ◌&&◌, leb, List, [], ◌∷◌, ◌++◌, map, length, Some, None, Option, sym, refl, ap, ◌∙◌, subst, ap₂, add-one, arith, length-append}
use Rattle.std.specs.List.{flat_map, AllByRecursion}
use Rattle.std.proofs.ByRecursion.{All-append}
use Rattle.std.proofs.lemmas.Bool.Decides.{Decides-and}
use Rattle.wire.specs.Bytes.{Bytes}
use Rattle.wire.specs.declared.refusal.Reason.TheVariants as reason
use Rattle.wire.specs.Refusals.{refusal}
use Rattle.types.specs.Kinds.{Known}
use Rattle.schema.specs.Verdicts.{Verdict, fine, rule, ◌then◌}
use Rattle.schema.specs.Structure.{Template}
use Rattle.schema.specs.Lines.{Line, lines, there}
use Rattle.schema.specs.Sections.{Section, section_size}
use Rattle.schema.specs.Shape.{nothing_above, lines_shape, sections_shape}
use Rattle.schema.specs.Geometry.{block_ground, block_fits, lines_geometry, section_geometry, sections_geometry}
use Rattle.schema.specs.Reading.{template_by, template_of}
use Rattle.schema.specs.Writing.{line_bytes, lines_bytes, template_lines, template_body, template_bytes, templates_bytes}
use Rattle.schema.specs.WellFormed.{GoodTemplate, Numbered}
use Rattle.schema.proofs.Verdicts.{Iff, never, both, joins, rule_iff, decides_leb}
use Rattle.schema.proofs.CutForms.{Whole, whole_is, there_map}
use Rattle.schema.proofs.LineForms.{FitLine, lines_of, lines_back, line_is_bytes}
use Rattle.schema.proofs.SectionForms.{section_bytes, FitSection}
use Rattle.schema.proofs.Ordered.{lines_whole, in_order_is, fields_read, groups_read, parts_read}
use Rattle.schema.proofs.Named.{names_iff}
use Rattle.schema.proofs.Placed.{places_iff}
use Rattle.schema.proofs.Fitted.{good_template, template_names, template_places, template_fits}

-- the section that a template is written as
abbrev pub section_for : Template → Section
section_for t = record { number = t.number; since = t.since; size = t.root.size; body = template_body t }

pub templates_sections : (ts : List Template) → templates_bytes ts ≡ flat_map section_bytes (map section_for ts)
templates_sections [] = refl
templates_sections (t ∷ ts) = ap (λ u. template_bytes t ++ u) (templates_sections ts)

lines_are_bytes : (ls : List Line) → AllByRecursion FitLine ls → Bytes (lines_bytes ls)
lines_are_bytes [] h = tt
lines_are_bytes (l ∷ ls) h = All-append (λ b. b < 256) (line_bytes l) (lines_bytes ls) (line_is_bytes l h.0) (lines_are_bytes ls h.1)

-- ---- one template

module _ (known : Known) (version : ℕ) where
  head_iff : (p : ℕ) (t : Section) → Iff (rule (leb t.since version && block_fits t.size) reason.LineGeometry p 0 ≡ fine) ((t.since ≤ version) × (t.size ≤ 16372))
  head_iff p t = rule_iff (leb t.since version && block_fits t.size) (refusal reason.LineGeometry p 0) (Decides-and (leb t.since version) (leb t.size 16372) (decides_leb t.since version) (decides_leb t.size 16372))

  section_back : (p q : ℕ) (t : Section) → FitSection t → lines_shape nothing_above p (lines t.body) ≡ fine → section_geometry known version q t ≡ fine → GoodTemplate known version (template_of t) × (section_for (template_of t) ≡ t)
  section_back p q t fit shape geometry =
      let ls = there (lines t.body) in
      let w = lines_whole nothing_above p (lines t.body) shape in
      let made = lines_back t.body fit.4 w in
      let e : lines_shape nothing_above p (map Some ls) ≡ fine = subst (λ (os : List (Option Line)). lines_shape nothing_above p os ≡ fine) (whole_is (lines t.body) w) shape in
      let o : ls ≡ template_lines (template_of t) = in_order_is ls p e in
      let g = both (rule (leb t.since version && block_fits t.size) reason.LineGeometry q 0) (lines_geometry known version (block_ground t.size 0) (q + 8) ls) geometry in
      let head = (head_iff q t).0 g.0 in
      let names = (names_iff (template_of t) p).0 (subst (λ (ms : List Line). lines_shape nothing_above p (map Some ms) ≡ fine) o e) in
      let places = (places_iff known version (template_of t) (q + 8)).0 (subst (λ (ms : List Line). lines_geometry known version (block_ground t.size 0) (q + 8) ms ≡ fine) o g.1) in (
        good_template known version (template_of t) fit.1 head.0 head.1 names places (subst (AllByRecursion FitLine) o made.1),
        (λ i. record { number = t.number; since = t.since; size = t.size; body = (ap lines_bytes (sym o) ∙ made.0) i }),
      )

  -- a template that is written out passes, and is read back
  record Stands (t : Template) : Type 0 where
    fits : FitSection (section_for t)
    same : template_of (section_for t) ≡ t
    shape : (p : ℕ) → lines_shape nothing_above p (lines (template_body t)) ≡ fine
    geometry : (p : ℕ) → section_geometry known version p (section_for t) ≡ fine

  stands : (t : Template) → version < 2 ^ 16 → 8 + length (template_body t) < 2 ^ 16 → GoodTemplate known version t → Stands t
  stands t v l h =
      let fits = template_fits known version t h in
      let ls = template_lines t in
      let e : lines (template_body t) ≡ map Some ls = lines_of ls fits in
      let o : there (lines (template_body t)) ≡ ls = ap there e ∙ there_map ls in
      let s = h.since in
      let z = h.root.size_fits in
      record {
        fits = (l, h.number_fits, omega arith, omega arith, lines_are_bytes ls fits);
        same = ap (template_by (section_for t)) o ∙ (λ i. record { number = t.number; since = t.since; root = record { size = t.root.size; fields = fields_read t i }; groups = groups_read t i; parts = parts_read t i });
        shape = λ p. ap (lines_shape nothing_above p) e ∙ (names_iff t p).1 (template_names known version t h);
        geometry = λ p.
            joins (rule (leb t.since version && block_fits t.root.size) reason.LineGeometry p 0) (lines_geometry known version (block_ground t.root.size 0) (p + 8) (there (lines (template_body t))))
            ((head_iff p (section_for t)).1 (s, z))
            (ap (lines_geometry known version (block_ground t.root.size 0) (p + 8)) o ∙ (places_iff known version t (p + 8)).1 (template_places known version t h));
      }

-- ---- templates one behind the other

-- what is looked at behind a section's number
abbrev rest_shape : ℕ → Section → List (Option Section) → Verdict
rest_shape p t ts = lines_shape nothing_above (p + 8) (lines t.body) then sections_shape (suc t.number) (p + section_size t) ts

number_iff : (least p number : ℕ) → Iff (rule (leb least number) reason.LineName p 0 ≡ fine) (least ≤ number)
number_iff least p number = rule_iff (leb least number) (refusal reason.LineName p 0) (decides_leb least number)

each_section : (least p : ℕ) (t : Section) (ts : List (Option Section)) → sections_shape least p (Some t ∷ ts) ≡ fine → (least ≤ t.number) × (lines_shape nothing_above (p + 8) (lines t.body) ≡ fine) × (sections_shape (suc t.number) (p + section_size t) ts ≡ fine)
each_section least p t ts e =
    let x = both (rule (leb least t.number) reason.LineName p 0) (rest_shape p t ts) e in
    let y = both (lines_shape nothing_above (p + 8) (lines t.body)) (sections_shape (suc t.number) (p + section_size t) ts) x.1 in
    ((number_iff least p t.number).0 x.0, y.0, y.1)

pub sections_whole : (least p : ℕ) (ts : List (Option Section)) → sections_shape least p ts ≡ fine → Whole ts
sections_whole least p [] e = tt
sections_whole least p (None ∷ ts) e = never (refusal reason.LineShape p 0) e
sections_whole least p (Some t ∷ ts) e = sections_whole (suc t.number) (p + section_size t) ts (each_section least p t ts e).2

module _ (known : Known) (version : ℕ) where
  -- sections that pass are good templates, and are those written out
  pub record MadeOf (least : ℕ) (ts : List Section) : Type 0 where
    pub numbers : Numbered least (map template_of ts)
    pub good : AllByRecursion (GoodTemplate known version) (map template_of ts)
    pub same : map section_for (map template_of ts) ≡ ts

  pub made_of : (least p q : ℕ) (ts : List Section) → AllByRecursion FitSection ts → sections_shape least p (map Some ts) ≡ fine → sections_geometry known version q ts ≡ fine → MadeOf least ts
  made_of least p q [] f e g = record { numbers = tt; good = tt; same = refl }
  made_of least p q (t ∷ ts) f e g =
      let x = each_section least p t (map Some ts) e in
      let y = both (section_geometry known version q t) (sections_geometry known version (q + section_size t) ts) g in
      let z = section_back known version (p + 8) q t f.0 x.1 y.0 in
      let r = made_of (suc t.number) (p + section_size t) (q + section_size t) ts f.1 x.2 y.1 in
      record { numbers = (x.0, rw add-one r.numbers); good = (z.0, r.good); same = ap₂ (λ u us. u ∷ us) z.1 r.same }

  -- good templates written out pass, and are read back
  pub record Written (least : ℕ) (ts : List Template) : Type 0 where
    pub fits : AllByRecursion FitSection (map section_for ts)
    pub same : map template_of (map section_for ts) ≡ ts
    pub shape : (p : ℕ) → sections_shape least p (map Some (map section_for ts)) ≡ fine
    pub geometry : (p : ℕ) → sections_geometry known version p (map section_for ts) ≡ fine

  pub written : (least : ℕ) (ts : List Template) → version < 2 ^ 16 → length (templates_bytes ts) < 2 ^ 16 → Numbered least ts → AllByRecursion (GoodTemplate known version) ts → Written least ts
  written least [] v l n h = record { fits = tt; same = refl; shape = λ p. refl; geometry = λ p. refl }
  written least (t ∷ ts) v l n h =
      let long : length (template_bytes t) + length (templates_bytes ts) < 2 ^ 16 = rw length-append at l in
      let s = stands known version t v (omega arith) h.0 in
      let r = written (suc t.number) ts v (omega arith) (rw add-one at n.1) h.1 in
      record {
        fits = (s.fits, r.fits);
        same = ap₂ (λ u us. u ∷ us) s.same r.same;
        shape = λ p.
            let rest = sections_shape (suc t.number) (p + section_size (section_for t)) (map Some (map section_for ts)) in
            joins (rule (leb least t.number) reason.LineName p 0) (rest_shape p (section_for t) (map Some (map section_for ts)))
            ((number_iff least p t.number).1 n.0)
            (joins (lines_shape nothing_above (p + 8) (lines (template_body t))) rest (s.shape (p + 8)) (r.shape (p + section_size (section_for t))));
        geometry = λ p.
            joins (section_geometry known version p (section_for t)) (sections_geometry known version (p + section_size (section_for t)) (map section_for ts)) (s.geometry p) (r.geometry (p + section_size (section_for t)));
      }
