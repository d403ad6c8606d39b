-- A frame that one library accepts, read by another that knows the same kinds for its template.
use Rattle.std.proofs.Common.{◌≡◌, ℕ, Bool, ◌&&◌, eqb, ltb, List, [], ◌∷◌, map, length, drop, Some, None, Option, refl, ap, ◌∙◌, ap₂}
use Rattle.std.specs.List.{AllByRecursion}
use Rattle.wire.specs.Bytes.{Bytes}
use Rattle.wire.specs.Streams.{frame_length}
use Rattle.types.specs.Kinds.{Known}
use Rattle.schema.specs.Verdicts.{fine}
use Rattle.schema.specs.Structure.{Field, Group, Template}
use Rattle.schema.specs.Geometry.{kind_of}
use Rattle.schema.specs.Reading.{dictionary_of}
use Rattle.schema.specs.Seen.{template_at}
use Rattle.schema.specs.Laws.{PassesExactlyAsWrittenOut, Checked}
use Rattle.message.specs.Frames.{stated, contents_verdict, contents_read}
use Rattle.message.specs.Messages.{slot_of, group_view, data_view, view_of, template_geometry, is_there, contents_by, stated_root, stated_template, stated_schema, stated_version, verdict_when, contents_read_by, message_of}
use Rattle.message.specs.Lookup.{message_reading}
use Rattle.message.specs.Laws.{SameKinds, SameKindsFor, TakenAsByAnother}
use Rattle.message.proofs.Verdicts.{both, told, joins, joins_rule}
use Rattle.message.proofs.Found.{geometry_passes}
use Rattle.message.proofs.FrameReading.{reads_as_its_message}

-- ---- the same kinds make the same view

module _ (known other : Known) where
  abbrev SameKind : Field → Type 0
  SameKind f = kind_of known f ≡ kind_of other f

  slots_same : (fs : List Field) → AllByRecursion SameKind fs → map (slot_of known) fs ≡ map (slot_of other) fs
  slots_same [] h = refl
  slots_same (f ∷ fs) h = ap₂ (λ k ss. record { tag = f.tag; offset = f.offset; kind = k; required = eqb f.presence 1 } ∷ ss) h.0 (slots_same fs h.1)

  groups_same : (gs : List Group) → AllByRecursion (λ g. AllByRecursion SameKind g.block.fields) gs → map (group_view known) gs ≡ map (group_view other) gs
  groups_same [] h = refl
  groups_same (g ∷ gs) h = ap₂ (λ ss vs. record { tag = g.tag; block = record { size = g.block.size; slots = ss } } ∷ vs) (slots_same g.block.fields h.0) (groups_same gs h.1)

  view_same : (t : Template) → SameKinds known other t → view_of known t ≡ view_of other t
  view_same t h = ap₂ (λ ss vs. record { root = record { size = t.root.size; slots = ss }; groups = vs; parts = map data_view t.parts }) (slots_same t.root.fields h.root) (groups_same t.groups h.groups)

  -- and by the same view bytes get the same verdict, and read as the same contents
  verdict_same : (closed newer : Bool) (o : Option Template) (given : ℕ) (bs : List ℕ) → ((t : Template) → o ≡ Some t → SameKinds known other t) → contents_by known closed newer o given bs ≡ contents_by other closed newer o given bs
  verdict_same closed newer None given bs h = refl
  verdict_same closed newer (Some t) given bs h = ap (λ v. contents_verdict closed newer v given 12 bs) (view_same t (h t refl))

  contents_same_by : (o : Option Template) (given : ℕ) (bs : List ℕ) → ((t : Template) → o ≡ Some t → SameKinds known other t) → contents_read_by known o given bs ≡ contents_read_by other o given bs
  contents_same_by None given bs h = refl
  contents_same_by (Some t) given bs h = ap (λ v. contents_read v given bs) (view_same t (h t refl))

-- ---- a frame that the other library accepts

module _ (known : Known) (exact : (s : List ℕ) → Bytes s → PassesExactlyAsWrittenOut known s) (s : List ℕ) (c : Checked known s) (closed : Bool) (other : Known) (bs : List ℕ) (e : verdict_when closed other s bs ≡ fine) (same : SameKindsFor known other s bs) where
  accepted : verdict_when closed known s bs ≡ fine
  accepted =
      let d = dictionary_of s in
      let number = stated_template bs in
      let u = stated_version bs in
      let a = told (frame_length (length bs) && eqb (stated bs 0) (length bs)) _ _ e in
      let b = told (eqb (stated bs 2) 0xEB50) _ _ a.1 in
      let i = told (eqb (stated_schema bs) d.schema) _ _ b.1 in
      let f = told (is_there (template_at d number u)) _ _ i.1 in
      let g = both (template_geometry other s number u) _ f.1 in
      let contents = verdict_same known other closed (ltb d.version u) (template_at d number u) (stated_root bs) (drop 12 bs) same ∙ g.1 in
      joins_rule _ _ _ a.0 (joins_rule _ _ _ b.0 (joins_rule _ _ _ i.0 (joins_rule _ _ _ f.0 (joins _ _ (geometry_passes known s c number u) contents))))

  same_message : message_of known (dictionary_of s) bs ≡ message_of other (dictionary_of s) bs
  same_message =
      ap (λ x. record { template = stated_template bs; version = stated_version bs; contents = x })
      (contents_same_by known other (template_at (dictionary_of s) (stated_template bs) (stated_version bs)) (stated_root bs) (drop 12 bs) same)

  pub taken_as_by_another : TakenAsByAnother closed known other s bs
  taken_as_by_another = record {
    accepted = accepted;
    same_message = same_message;
    reads = λ group entry tag.
        reads_as_its_message known exact s c closed bs accepted group entry tag
        ∙ ap (λ m. message_reading (dictionary_of s) m group entry tag) same_message;
  }
