-- A template whose types and geometry are right has blocks that blanks can be written to, as they are seen at any version.
use Rattle.std.proofs.Common.{◌≡◌, ℕ, ◌+◌, List, [], ◌∷◌, map, Ok, ap, ⊎_elim}
use Rattle.std.specs.List.{AllByRecursion}
use Rattle.std.proofs.lemmas.Bool.Decides.{eqb_tells}
use Rattle.types.specs.Kinds.{Known, AllLawful}
use Rattle.schema.specs.Verdicts.{fine}
use Rattle.schema.specs.Sections.{Section}
use Rattle.schema.specs.Structure.{Field, Block, Group, Template}
use Rattle.schema.specs.Geometry.{is_known, field_end, section_geometry}
use Rattle.schema.specs.Reading.{template_of}
use Rattle.schema.specs.Seen.{seen_group, seen_template}
use Rattle.message.specs.Messages.{slot_of, group_view}
use Rattle.message.proofs.Blocks.{Fits}
use Rattle.message.proofs.Making.{AllSized}
use Rattle.calls.proofs.Splits.{IfFound, found}
use Rattle.calls.proofs.Sound.{LawfulSlots, geometry_sound, lawful_slots}
use Rattle.places.specs.Places.{PlacedGroup, group_span, group_at, first_group, group_place}
use Rattle.blanks.specs.Blanks.{Fitting}

module _ (known : Known) where
  abbrev pub FittingBlock : Block → Type 0
  FittingBlock b = Fitting known 0 b.fields b.size

  -- the root and each group's block take blanks
  pub record FittingTemplate (t : Template) : Type 0 where
    pub root : FittingBlock t.root
    pub groups : AllByRecursion (λ g. FittingBlock g.block) t.groups

  fields_fit : (at : ℕ) (fs : List Field) (size : ℕ) → Fits at (map (slot_of known) fs) size → LawfulSlots (map (slot_of known) fs) → Fitting known at fs size
  fields_fit at [] size h k = h
  fields_fit at (f ∷ fs) size h k = (h.0, ap is_known k.0.is, fields_fit (field_end known f) fs size h.2 k.1)

  groups_fit : (gs : List Group) → AllSized (map (group_view known) gs) → AllByRecursion (λ g. LawfulSlots g.block.slots) (map (group_view known) gs) → AllByRecursion (λ g. FittingBlock g.block) gs
  groups_fit [] h k = tt
  groups_fit (g ∷ gs) h k = (fields_fit 0 g.block.fields g.block.size h.0.0 k.0, groups_fit gs h.1 k.1)

  -- from types and geometry, at any version u
  pub geometry_fits : AllLawful known → (version p u : ℕ) (t : Section) → section_geometry known version p t ≡ fine → FittingTemplate (seen_template u (template_of t))
  geometry_fits lawful version p u t e =
      let seen = seen_template u (template_of t) in
      let sound = geometry_sound known lawful version p u t e in
      let slots = lawful_slots known lawful version p u t e in
      record {
        root = fields_fit 0 seen.root.fields seen.root.size sound.root.0 slots.root;
        groups = groups_fit seen.groups sound.groups slots.groups;
      }

  module _ (u : ℕ) (bs : List ℕ) where
    group_at_fits : (p tag : ℕ) (gs : List Group) → AllByRecursion (λ g. FittingBlock g.block) (map (seen_group u) gs) → IfFound (λ g. FittingBlock g.group.block) (group_at u bs p gs tag)
    group_at_fits p tag [] h = tt
    group_at_fits p tag (g ∷ gs) h = ⊎_elim (λ a. rw a.0 h.0) (λ a. rw a.0 (group_at_fits (p + group_span u bs p g) tag gs h.1)) (eqb_tells g.tag tag)

    -- the block of a group that is found in the bytes of a frame takes blanks
    pub found_group_fits : (t : Template) (tag : ℕ) (g : PlacedGroup) → FittingTemplate (seen_template u t) → group_place u bs t tag ≡ Ok g → FittingBlock g.group.block
    found_group_fits t tag g h e = found (λ x. FittingBlock x.group.block) (group_place u bs t tag) g (group_at_fits (first_group u bs t) tag t.groups h.groups) e
