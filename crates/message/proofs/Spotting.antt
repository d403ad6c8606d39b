-- Reading a frame is to find the spot and to read it.
use Rattle.std.proofs.Common.{◌≡◌, ℕ, ◌+◌, ◌*◌, Bool, true, false, cond, eqb, ltb, leb, List, [], ◌∷◌, take, drop, Some, None, Ok, Err, Option, Result, refl, ap, ⊎_elim}
use Rattle.std.proofs.lemmas.List.{drop-drop}
use Rattle.std.proofs.lemmas.Bool.Decides.{leb_tells, eqb_tells}
use Rattle.wire.specs.declared.refusal.Refusal.{Refusal}
use Rattle.wire.specs.Refusals.{bind}
use Rattle.types.specs.Kinds.{Known}
use Rattle.schema.specs.Verdicts.{Verdict}
use Rattle.schema.specs.Structure.{Field, Group, Data, Template}
use Rattle.schema.specs.Geometry.{section_geometry}
use Rattle.schema.specs.Reading.{template_of, version_of, sections_of}
use Rattle.message.specs.Frames.{entry_length, entry_count, group_length, content_length, part_length}
use Rattle.message.specs.Messages.{stated_root, stated_template, stated_version}
use Rattle.schema.specs.Finding.{PlacedSection, section_at}
use Rattle.message.specs.Lookup.{Reading, holds, of_field, of_data, of_root, field_at, group_at, part_at, groups_end, in_bytes, in_section}
use Rattle.message.specs.Spots.{Spot, spot_reading, no_spot, spot_or, first_of, field_spot, part_spot, group_spot, template_spot, section_spot, ReadsItsSpots}

module _ (known : Known) (u : ℕ) (bs : List ℕ) where
  field_spotted : (base : ℕ) (fs : List Field) (tag : ℕ) → of_field (field_at known u bs base fs tag) tag ≡ bind (spot_or (field_spot u bs base fs tag) tag) (spot_reading known bs)
  field_spotted base [] tag = refl
  field_spotted base (f ∷ fs) tag = ⊎_elim
      (λ a. ⊎_elim (λ b. rw (a.0, b.0)) (λ b. rw (a.0, b.0)) (leb_tells f.since u))
      (λ a. rw a.0 (field_spotted base fs tag))
      (eqb_tells f.tag tag)

  part_spotted : (p : ℕ) (ds : List Data) (tag : ℕ) → of_data (part_at u bs p ds tag) tag ≡ bind (spot_or (part_spot u bs p ds tag) tag) (spot_reading known bs)
  part_spotted p [] tag = refl
  part_spotted p (d ∷ ds) tag = ⊎_elim
      (λ a. ⊎_elim
      (λ b. rw (a.0, b.0) (ap (λ y. Ok (holds (take (content_length d.prefix (drop p bs)) y))) (drop-drop d.prefix p bs)))
      (λ b. rw (a.0, b.0))
      (leb_tells d.since u))
      (λ a. rw a.0 (part_spotted (cond (leb d.since u) (p + part_length d.prefix (drop p bs)) p) ds tag))
      (eqb_tells d.tag tag)

  root_spotted : (base p : ℕ) (fs : List Field) (ds : List Data) (tag : ℕ) → of_root (field_at known u bs base fs tag) (part_at u bs p ds tag) tag ≡ bind (spot_or (first_of (field_spot u bs base fs tag) (part_spot u bs p ds tag)) tag) (spot_reading known bs)
  root_spotted base p [] ds tag = part_spotted p ds tag
  root_spotted base p (f ∷ fs) ds tag = ⊎_elim
      (λ a. ⊎_elim (λ b. rw (a.0, b.0)) (λ b. rw (a.0, b.0)) (leb_tells f.since u))
      (λ a. rw a.0 (root_spotted base p fs ds tag))
      (eqb_tells f.tag tag)

  -- one of two answers
  either_spotted : (b : Bool) (x y : Result Reading Refusal) (v w : Result Spot Refusal) → x ≡ bind v (spot_reading known bs) → y ≡ bind w (spot_reading known bs) → cond b x y ≡ bind (cond b v w) (spot_reading known bs)
  either_spotted true x y v w p q = p
  either_spotted false x y v w p q = q

  group_spotted : (p : ℕ) (gs : List Group) (group entry tag : ℕ) → group_at known u bs p gs group entry tag ≡ bind (group_spot u bs p gs group entry tag) (spot_reading known bs)
  group_spotted p [] group entry tag = refl
  group_spotted p (g ∷ gs) group entry tag =
      either_spotted (eqb g.tag group) _ _ _ _
      (either_spotted (ltb entry (entry_count (drop p bs))) _ _ (spot_or (field_spot u bs (p + 3 + entry * entry_length (drop p bs)) g.block.fields tag) tag) (no_spot group) (field_spotted (p + 3 + entry * entry_length (drop p bs)) g.block.fields tag) refl)
      (group_spotted (p + group_length (drop p bs)) gs group entry tag)

  template_spotted : (t : Template) (group entry tag : ℕ) → in_bytes known u bs t group entry tag ≡ bind (template_spot u bs t group entry tag) (spot_reading known bs)
  template_spotted t group entry tag =
      let q = groups_end bs (12 + stated_root bs) t.groups in
      either_spotted (eqb group 0) _ _ _ _
      (either_spotted (eqb entry 0) _ _ (spot_or (first_of (field_spot u bs 12 t.root.fields tag) (part_spot u bs q t.parts tag)) tag) (no_spot 0) (root_spotted 12 q t.root.fields t.parts tag) refl)
      (group_spotted (12 + stated_root bs) t.groups group entry tag)

  after_geometry : (v : Verdict) (x : Result Reading Refusal) (w : Result Spot Refusal) → x ≡ bind w (spot_reading known bs) → bind v (λ _. x) ≡ bind (bind v (λ _. w)) (spot_reading known bs)
  after_geometry (Ok y) x w p = p
  after_geometry (Err e) x w p = refl

  section_spotted : (version : ℕ) (o : Option PlacedSection) (group entry tag : ℕ) → in_section known version u bs o group entry tag ≡ bind (section_spot known version u bs o group entry tag) (spot_reading known bs)
  section_spotted version None group entry tag = refl
  section_spotted version (Some t) group entry tag =
      after_geometry (section_geometry known version t.place t.section) _ (template_spot u bs (template_of t.section) group entry tag) (template_spotted (template_of t.section) group entry tag)

pub reads_its_spots : (known : Known) (s bs : List ℕ) → ReadsItsSpots known s bs
reads_its_spots known s bs group entry tag = section_spotted known (stated_version bs) bs (version_of s) (section_at (stated_template bs) (stated_version bs) 7 (sections_of s)) group entry tag
