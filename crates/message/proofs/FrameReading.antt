-- An accepted frame reads as its message.
use Rattle.std.proofs.Common.{◌≡◌, ℕ, ◌+◌, ◌<◌, ◌≤◌, Bool, true, false, ◌&&◌, eqb, ltb, leb, List, [], ◌∷◌, map, length, drop, Some, None, Option, sym, refl, ap, ◌∙◌, subst, ⊎_elim, arith}
use Rattle.std.proofs.lemmas.Bool.{ne_eqb, and_right, and_parts, leb-true, cases_Bool}
use Rattle.std.proofs.lemmas.Bool.Decides.{leb_tells, eqb_tells}
use Rattle.wire.specs.Bytes.{Bytes}
use Rattle.wire.specs.Refusals.{bind}
use Rattle.wire.specs.Streams.{frame_length}
use Rattle.types.specs.Kinds.{Known}
use Rattle.schema.specs.Verdicts.{fine}
use Rattle.schema.specs.Sections.{Section, section_size}
use Rattle.schema.specs.Geometry.{section_geometry}
use Rattle.schema.specs.Reading.{template_of, version_of, sections_of, dictionary_of}
use Rattle.schema.specs.Seen.{seen_template, find, template_at}
use Rattle.schema.specs.WellFormed.{GoodTemplate, Numbered, WellFormed}
use Rattle.schema.specs.Laws.{PassesExactlyAsWrittenOut, Checked}
use Rattle.schema.proofs.EditionLaws.{find_holds}
use Rattle.schema.proofs.EditionsAgree.{checked_is_well_formed}
use Rattle.message.specs.Frames.{stated, contents_verdict}
use Rattle.message.specs.Messages.{geometry_of, template_geometry, view_of, is_there, contents_by, stated_root, stated_template, stated_schema, stated_version, verdict_when, contents_read_by}
use Rattle.schema.specs.Finding.{PlacedSection, section_at}
use Rattle.message.specs.Lookup.{in_template, in_bytes, in_section}
use Rattle.message.specs.Laws.{ReadsAsItsMessage}
use Rattle.message.proofs.Verdicts.{both, told}
use Rattle.message.proofs.Found.{seen_in, template_in_section, geometry_passes}
use Rattle.message.proofs.Lookups.{contents_same}

-- ---- the section that is found is that of the number

no_section : (number u p least : ℕ) (ts : List Section) → number < least → Numbered least (map template_of ts) → section_at number u p ts ≡ None
no_section number u p least [] l h = refl
no_section number u p least (t ∷ ts) l h =
    let m = h.0 in
    rw (and_right (leb t.since u) (eqb t.number number) (ne_eqb t.number number (λ e. omega arith))) (no_section number u (p + section_size t) (t.number + 1) ts (omega arith) h.1)

pub section_is : (number u p least : ℕ) (ts : List Section) (x : PlacedSection) → Numbered least (map template_of ts) → section_at number u p ts ≡ Some x → find number (map template_of ts) ≡ Some (template_of x.section)
section_is number u p least [] x h e = let z : ◌≡◌ {A = ℕ} 0 1 = cc in absurd (omega arith)
section_is number u p least (t ∷ ts) x h e = ⊎_elim
    (λ a. ⊎_elim
    (λ b.
    let q : Some (record { place = p; section = t }) ≡ Some x = rw (b.0, a.0) at e in
    let r : record { place = p; section = t } ≡ x = cc in
    rw a.0 (ap (λ y. Some (template_of y.section)) r))
    (λ b.
    let q : section_at number u (p + section_size t) ts ≡ Some x = rw b.0 at e in
    let none = no_section number u (p + section_size t) (t.number + 1) ts (omega arith) h.1 in
    let z : ◌≡◌ {A = ℕ} 0 1 = cc in absurd (omega arith))
    (leb_tells t.since u))
    (λ a.
    let no : (leb t.since u && eqb t.number number) ≡ false = and_right (leb t.since u) (eqb t.number number) a.0 in
    rw a.0 (section_is number u (p + section_size t) (t.number + 1) ts x h.1 (rw no at e)))
    (eqb_tells t.number number)

-- and it is there at the version
section_since : (number u p : ℕ) (ts : List Section) (x : PlacedSection) → section_at number u p ts ≡ Some x → x.section.since ≤ u
section_since number u p [] x e = let z : ◌≡◌ {A = ℕ} 0 1 = cc in absurd (omega arith)
section_since number u p (t ∷ ts) x e = ⊎_elim
    (λ a.
    let both_hold = and_parts (leb t.since u) (eqb t.number number) (a) in
    let q : Some (record { place = p; section = t }) ≡ Some x = rw a at e in
    let r : record { place = p; section = t } ≡ x = cc in
    subst (λ y. y.section.since ≤ u) r (leb-true t.since u both_hold.0))
    (λ a. section_since number u (p + section_size t) ts x (rw a at e))
    (cases_Bool (leb t.since u && eqb t.number number))

-- ---- what an accepted frame's verdict says

-- an accepted frame has a header and a template, and its contents pass
pub contents_passed : (closed : Bool) (known : Known) (s bs : List ℕ) → verdict_when closed known s bs ≡ fine →
    (12 ≤ length bs)
    × ((is_there (template_at (dictionary_of s) (stated_template bs) (stated_version bs)) ≡ true)
    × (contents_by known closed (ltb (dictionary_of s).version (stated_version bs)) (template_at (dictionary_of s) (stated_template bs) (stated_version bs)) (stated_root bs) (drop 12 bs) ≡ fine))
contents_passed closed known s bs e =
    let d = dictionary_of s in
    let a = told (frame_length (length bs) && eqb (stated bs 0) (length bs)) _ _ e in
    let b = told (eqb (stated bs 2) 0xEB50) _ _ a.1 in
    let i = told (eqb (stated_schema bs) d.schema) _ _ b.1 in
    let f = told (is_there (template_at d (stated_template bs) (stated_version bs))) _ _ i.1 in
    let g = both (template_geometry known s (stated_template bs) (stated_version bs)) _ f.1 in
    let a1 = and_parts (frame_length (length bs)) (eqb (stated bs 0) (length bs)) a.0 in
    let a2 = and_parts (leb 12 (length bs)) (leb (length bs) 16384) a1.0 in
    (leb-true 12 (length bs) a2.0, (f.0, g.1))

module _ (known : Known) (exact : (s : List ℕ) → Bytes s → PassesExactlyAsWrittenOut known s) (s : List ℕ) (c : Checked known s) where
  well : WellFormed known (dictionary_of s)
  well = checked_is_well_formed known exact s c

  -- the template of an accepted frame: the section that it is found in, the whole of it, and what is seen of it at the frame's version
  pub record TemplateOfFrame (bs : List ℕ) : Type 0 where
    pub section : PlacedSection
    pub found : section_at (stated_template bs) (stated_version bs) 7 (sections_of s) ≡ Some section
    pub whole : find (stated_template bs) (dictionary_of s).templates ≡ Some (template_of section.section)
    pub at_version : template_at (dictionary_of s) (stated_template bs) (stated_version bs) ≡ Some (seen_template (stated_version bs) (template_of section.section))
    pub since : section.section.since ≤ stated_version bs
    pub good : GoodTemplate known (dictionary_of s).version (template_of section.section)
    pub geometry : section_geometry known (version_of s) section.place section.section ≡ fine

  template_by : (bs : List ℕ) (o : Option PlacedSection) → section_at (stated_template bs) (stated_version bs) 7 (sections_of s) ≡ o → is_there (template_at (dictionary_of s) (stated_template bs) (stated_version bs)) ≡ true → TemplateOfFrame bs
  template_by bs None e there =
      let none : template_at (dictionary_of s) (stated_template bs) (stated_version bs) ≡ None = template_in_section s (stated_template bs) (stated_version bs) ∙ ap (seen_in (stated_version bs)) e in
      let no : is_there (template_at (dictionary_of s) (stated_template bs) (stated_version bs)) ≡ false = ap is_there none in
      let z : ◌≡◌ {A = ℕ} 0 1 = cc in absurd (omega arith)
  template_by bs (Some x) e there =
      let whole = section_is (stated_template bs) (stated_version bs) 7 0 (sections_of s) x well.numbers e in
      record {
        section = x;
        found = e;
        whole = whole;
        since = section_since (stated_template bs) (stated_version bs) 7 (sections_of s) x e;
        at_version = template_in_section s (stated_template bs) (stated_version bs) ∙ ap (seen_in (stated_version bs)) e;
        good = (find_holds (GoodTemplate known (dictionary_of s).version) (stated_template bs) (dictionary_of s).templates (template_of x.section) well.templates whole).0;
        geometry = ap (geometry_of known (version_of s)) (sym e) ∙ geometry_passes known s c (stated_template bs) (stated_version bs);
      }

  pub template_of_frame : (bs : List ℕ) → is_there (template_at (dictionary_of s) (stated_template bs) (stated_version bs)) ≡ true → TemplateOfFrame bs
  template_of_frame bs there = template_by bs (section_at (stated_template bs) (stated_version bs) 7 (sections_of s)) refl there

  pub reads_as_its_message : (closed : Bool) (bs : List ℕ) → verdict_when closed known s bs ≡ fine → ReadsAsItsMessage known s bs
  reads_as_its_message closed bs e group entry tag =
      let d = dictionary_of s in
      let u = stated_version bs in
      let p = contents_passed closed known s bs e in
      let t = template_of_frame bs p.1.0 in
      let w = template_of t.section.section in
      let newer = ltb d.version u in
      let passed : contents_verdict closed newer (view_of known (seen_template u w)) (stated_root bs) 12 (drop 12 bs) ≡ fine =
      subst (λ o. contents_by known closed newer o (stated_root bs) (drop 12 bs) ≡ fine) t.at_version p.1.1 in
      let same = contents_same known u bs closed newer d.version w group entry tag t.good passed in
      ap (λ o. in_section known (version_of s) u bs o group entry tag) t.found
      ∙ ap (λ v. bind v (λ _. in_bytes known u bs w group entry tag)) t.geometry
      ∙ sym same
      ∙ (λ i. in_template (sym t.whole i) (contents_read_by known (sym t.at_version i) (stated_root bs) (drop 12 bs)) group entry tag)
