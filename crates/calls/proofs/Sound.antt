-- A template whose types and geometry are right is sound at every version, whatever else the bytes of its dictionary are.
use Rattle.std.proofs.Common.{◌≡◌, ℕ, zero, suc, ◌+◌, ◌^◌, ◌≤◌, true, ◌&&◌, eqb, leb, List, [], ◌∷◌, map, length, get_or, take, drop, Some, None, Option, sym, refl, ap, subst, arith}
use Rattle.std.specs.List.{AllByRecursion}
use Rattle.std.proofs.lemmas.Bool.{leb-true, and_parts, cond_both}
use Rattle.types.specs.Kinds.{Kind, Lawful, Known, AllLawful}
use Rattle.schema.specs.Verdicts.{fine}
use Rattle.schema.specs.Structure.{Field, Block, Group, Data}
use Rattle.schema.specs.Lines.{Line, field, group, end, part, line_size, field_in, data_in, number_2, number_4, line_of, first_line, onward, lines_from, lines, there}
use Rattle.schema.specs.Sections.{Section}
use Rattle.schema.specs.Geometry.{Ground, block_ground, block_fits, since_fits, is_known, kind_of, field_end, well_typed, longest_fits, well_placed, ground_past, line_verdict, lines_geometry, section_geometry}
use Rattle.schema.specs.Reading.{fields_of, groups_of, parts_of, template_of}
use Rattle.schema.specs.Seen.{length_at, seen_fields, seen_parts, seen_block, seen_group, seen_template}
use Rattle.schema.specs.WellFormed.{Places}
use Rattle.schema.proofs.Picks.{picks_all}
use Rattle.schema.proofs.VersionsWellFormed.{fields_picks, parts_picks}
use Rattle.schema.proofs.Lengths.{length_within, places_at}
use Rattle.message.specs.Blocks.{Slot}
use Rattle.message.specs.Frames.{View}
use Rattle.message.specs.Messages.{slot_of, block_view, group_view, data_view, view_of}
use Rattle.message.proofs.Verdicts.{both, told, holds}
use Rattle.message.proofs.Patterns.{SoundKind, sound_lawful}
use Rattle.message.proofs.Blocks.{Fits, Sized}
use Rattle.message.proofs.Making.{AllSized}
use Rattle.message.proofs.Views.{AllRoom, SoundView}

-- a type that the library knows, and whose kind is lawful
pub record LawfulKind (k : Option Kind) : Type 0 where
  pub kind : Kind
  pub is : k ≡ Some kind
  pub laws : Lawful kind

-- each field of a block has such a type
abbrev pub LawfulSlots : List Slot → Type 0
LawfulSlots fs = AllByRecursion (λ f. LawfulKind f.kind) fs

-- each field of the root and of the groups has such a type
pub record LawfulView (v : View) : Type 0 where
  pub root : LawfulSlots v.root.slots
  pub groups : AllByRecursion (λ g. LawfulSlots g.block.slots) v.groups

-- ---- data that were read from bytes have a length of one byte

abbrev OneByte : Data → Type 0
OneByte d = d.prefix ≡ 1

abbrev OneByteLine : Option Line → Type 0
OneByteLine None = Unit {0}
OneByteLine (Some (field f)) = Unit {0}
OneByteLine (Some (group tag size)) = Unit {0}
OneByteLine (Some end) = Unit {0}
OneByteLine (Some (part d)) = OneByte d

line_of_one : (n sort : ℕ) (l : List ℕ) → OneByteLine (line_of n sort l)
line_of_one n sort l =
    cond_both (eqb sort 1) _ _ OneByteLine
    (λ _. cond_both (leb 12 n) (Some (field (field_in l))) None OneByteLine (λ _. tt) (λ _. tt))
    (λ _. cond_both (eqb sort 2) _ _ OneByteLine
    (λ _. cond_both (eqb n 8) (Some (group (number_4 l 2) (number_2 l 6))) None OneByteLine (λ _. tt) (λ _. tt))
    (λ _. cond_both (eqb sort 3) _ _ OneByteLine
    (λ _. cond_both (eqb n 2) (Some end) None OneByteLine (λ _. tt) (λ _. tt))
    (λ _. cond_both (eqb sort 4) _ _ OneByteLine
    (λ _. cond_both (eqb n 9) (Some (part (data_in l))) None OneByteLine (λ _. refl) (λ _. tt))
    (λ _. tt))))

first_line_one : (s : List ℕ) → OneByteLine (first_line s)
first_line_one s =
    cond_both (leb 2 (length s) && leb (get_or s 0 0) (length s)) (line_of (get_or s 0 0) (get_or s 1 0) (take (get_or s 0 0) s)) None OneByteLine
    (λ _. line_of_one (get_or s 0 0) (get_or s 1 0) (take (get_or s 0 0) s))
    (λ _. tt)

onward_one : (o : Option Line) (go : Line → List (Option Line)) → OneByteLine o → ((l : Line) → AllByRecursion OneByte (parts_of (there (go l)))) → AllByRecursion OneByte (parts_of (there (onward o go)))
onward_one None go h k = tt
onward_one (Some (field f)) go h k = k (field f)
onward_one (Some (group tag size)) go h k = k (group tag size)
onward_one (Some end) go h k = k end
onward_one (Some (part d)) go h k = (h, k (part d))

lines_from_one : (n : ℕ) (s : List ℕ) → AllByRecursion OneByte (parts_of (there (lines_from n s)))
lines_from_one zero s = tt
lines_from_one (suc n) [] = tt
lines_from_one (suc n) (b ∷ s) = onward_one (first_line (b ∷ s)) (λ l. lines_from n (drop (line_size l) (b ∷ s))) (first_line_one (b ∷ s)) (λ l. lines_from_one n (drop (line_size l) (b ∷ s)))

lines_one : (s : List ℕ) → AllByRecursion OneByte (parts_of (there (lines s)))
unfolding lines
lines_one s = lines_from_one (length s) s

views_one : (ds : List Data) → AllByRecursion OneByte ds → AllByRecursion (λ d. d.prefix ≡ 1) (map data_view ds)
views_one [] h = tt
views_one (d ∷ ds) h = (h.0, views_one ds h.1)

-- so have those of a template as seen at u
pub one_byte_lengths : (u : ℕ) (t : Section) → AllByRecursion (λ d. d.prefix ≡ 1) (map data_view (seen_parts u (template_of t).parts))
one_byte_lengths u t =
    let ds = parts_of (there (lines t.body)) in
    views_one (seen_parts u ds) (picks_all OneByte OneByte (λ x y e k. rw e k) (parts_picks u ds) (lines_one t.body))

-- ---- lines that pass as to types and geometry

module _ (known : Known) (lawful : AllLawful known) where
  abbrev LawfulField : Field → Type 0
  LawfulField f = LawfulKind (kind_of known f)

  known_lawful : (number : ℕ) (argument : List ℕ) (o : Option Kind) → known number argument ≡ o → is_known o ≡ true → LawfulKind o
  known_lawful number argument None e h = let z : ◌≡◌ {A = ℕ} 0 1 = cc in absurd (omega arith)
  known_lawful number argument (Some k) e h = record { kind = k; is = refl; laws = lawful number argument k e }

  -- fields that have their places and lawful types
  abbrev Laid : ℕ → ℕ → List Field → Type 0
  Laid taken size fs = AllByRecursion LawfulField fs × Places known taken size fs

  abbrev LaidBlock : Block → Type 0
  LaidBlock b = (b.size ≤ 16372) × Laid 0 b.size b.fields

  module _ (version : ℕ) where
    -- a field line that passes
    field_laid : (g : Ground) (p : ℕ) (f : Field) → line_verdict known version g p (field f) ≡ fine → LawfulField f × ((g.taken ≤ f.offset) × (field_end known f ≤ g.size))
    field_laid g p f e =
        let a = told (well_typed known f) _ _ e in
        let typed = and_parts (is_known (kind_of known f)) (leb f.presence 1) a.0 in
        let b = and_parts (leb g.taken f.offset && leb (field_end known f) g.size) (since_fits version g.since f.since) (holds (well_placed known version g f) _ a.1) in
        let c = and_parts (leb g.taken f.offset) (leb (field_end known f) g.size) b.0 in
        (known_lawful f.type f.argument (kind_of known f) refl typed.0, (leb-true _ _ c.0, leb-true _ _ c.1))

    -- the fields that come first
    fields_laid : (g : Ground) (p : ℕ) (ls : List Line) → lines_geometry known version g p ls ≡ fine → Laid g.taken g.size (fields_of ls)
    fields_laid g p [] e = (tt, tt)
    fields_laid g p (field f ∷ ls) e =
        let h = both (line_verdict known version g p (field f)) (lines_geometry known version (ground_past known g (field f)) (p + line_size (field f)) ls) e in
        let a = field_laid g p f h.0 in
        let r = fields_laid (ground_past known g (field f)) (p + line_size (field f)) ls h.1 in
        ((a.0, r.0), (a.1.0, a.1.1, r.1))
    fields_laid g p (group tag size ∷ ls) e = (tt, tt)
    fields_laid g p (end ∷ ls) e = (tt, tt)
    fields_laid g p (part d ∷ ls) e = (tt, tt)

    -- each group with the fields that follow its line
    groups_laid : (g : Ground) (p : ℕ) (ls : List Line) → lines_geometry known version g p ls ≡ fine → AllByRecursion (λ r. LaidBlock r.block) (groups_of ls)
    groups_laid g p [] e = tt
    groups_laid g p (field f ∷ ls) e = groups_laid (ground_past known g (field f)) (p + line_size (field f)) ls (both (line_verdict known version g p (field f)) _ e).1
    groups_laid g p (group tag size ∷ ls) e =
        let h = told (block_fits size) _ _ e in
        ((leb-true size 16372 h.0, fields_laid (block_ground size g.part_since) (p + 8) ls h.1), groups_laid (block_ground size g.part_since) (p + 8) ls h.1)
    groups_laid g p (end ∷ ls) e = groups_laid g (p + 2) ls e
    groups_laid g p (part d ∷ ls) e = groups_laid (ground_past known g (part d)) (p + 9) ls (both (line_verdict known version g p (part d)) _ e).1

    parts_short : (g : Ground) (p : ℕ) (ls : List Line) → lines_geometry known version g p ls ≡ fine → AllByRecursion (λ d. d.longest ≤ 254) (parts_of ls)
    parts_short g p [] e = tt
    parts_short g p (field f ∷ ls) e = parts_short (ground_past known g (field f)) (p + line_size (field f)) ls (both (line_verdict known version g p (field f)) _ e).1
    parts_short g p (group tag size ∷ ls) e = parts_short (block_ground size g.part_since) (p + 8) ls (told (block_fits size) _ _ e).1
    parts_short g p (end ∷ ls) e = parts_short g (p + 2) ls e
    parts_short g p (part d ∷ ls) e =
        let h = both (line_verdict known version g p (part d)) _ e in
        let a = told (longest_fits d) _ _ h.0 in
        (leb-true d.longest 254 (and_parts (leb 1 d.longest) (leb d.longest 254) a.0).1, parts_short (ground_past known g (part d)) (p + 9) ls h.1)

  -- ---- as seen at a version

  lawful_sound : (o : Option Kind) → LawfulKind o → SoundKind o
  lawful_sound o h = subst SoundKind (sym h.is) (sound_lawful h.kind h.laws)

  fields_fit : (taken size : ℕ) (fs : List Field) → taken ≤ size → Laid taken size fs → Fits taken (map (slot_of known) fs) size
  fields_fit taken size [] l h = l
  fields_fit taken size (f ∷ fs) l h = (h.1.0, lawful_sound (kind_of known f) h.0.0, fields_fit (field_end known f) size fs h.1.1 (h.0.1, h.1.2))

  slots_lawful : (fs : List Field) → AllByRecursion LawfulField fs → LawfulSlots (map (slot_of known) fs)
  slots_lawful [] h = tt
  slots_lawful (f ∷ fs) h = (h.0, slots_lawful fs h.1)

  module _ (u : ℕ) where
    seen_laid : (b : Block) → LaidBlock b → LaidBlock (seen_block u b)
    seen_laid b h =
        let within = length_within known u 0 b.size b.fields h.1.1 in
        let fits = h.0 in
        (omega arith, (picks_all LawfulField LawfulField (λ x y e k. rw e k) (fields_picks u b.fields) h.1.0, places_at known u 0 b.size b.fields h.1.1))

    block_sized : (b : Block) → LaidBlock b → Sized (block_view known (seen_block u b))
    block_sized b h =
        let k = seen_laid b h in
        (fields_fit 0 (length_at u b.size b.fields) (seen_fields u b.fields) (omega arith) k.1, k.0)

    block_lawful : (b : Block) → LaidBlock b → LawfulSlots (block_view known (seen_block u b)).slots
    block_lawful b h = slots_lawful (seen_fields u b.fields) (seen_laid b h).1.0

    groups_sized : (gs : List Group) → AllByRecursion (λ r. LaidBlock r.block) gs → AllSized (map (group_view known) (map (seen_group u) gs))
    groups_sized [] h = tt
    groups_sized (g ∷ gs) h = (block_sized g.block h.0, groups_sized gs h.1)

    groups_lawful : (gs : List Group) → AllByRecursion (λ r. LaidBlock r.block) gs → AllByRecursion (λ g. LawfulSlots g.block.slots) (map (group_view known) (map (seen_group u) gs))
    groups_lawful [] h = tt
    groups_lawful (g ∷ gs) h = (block_lawful g.block h.0, groups_lawful gs h.1)

    parts_room : (ds : List Data) → AllByRecursion (λ d. d.longest ≤ 254) ds → AllByRecursion OneByte ds → AllRoom (map data_view ds)
    parts_room [] h k = tt
    parts_room (d ∷ ds) h k =
        let one : 256 ^ d.prefix ≡ 256 ^ 1 = ap (λ n. 256 ^ n) k.0 in
        let is : 256 ^ 1 ≡ 256 = refl in
        let most = h.0 in
        (omega arith, parts_room ds h.1 k.1)

    -- a template that passes as to types and geometry, as seen at u
    pub record SoundAt (t : Section) : Type 0 where
      pub sound : SoundView (view_of known (seen_template u (template_of t)))
      pub slots : LawfulView (view_of known (seen_template u (template_of t)))

    geometry_lays : (version p : ℕ) (t : Section) → section_geometry known version p t ≡ fine → SoundAt t
    geometry_lays version p t e =
        let ls = there (lines t.body) in
        let a = told (leb t.since version && block_fits t.size) _ _ e in
        let fits = leb-true t.size 16372 (and_parts (leb t.since version) (block_fits t.size) a.0).1 in
        let ground = block_ground t.size 0 in
        let root : LaidBlock (template_of t).root = (fits, fields_laid version ground (p + 8) ls a.1) in
        let groups = groups_laid version ground (p + 8) ls a.1 in
        let picks = parts_picks u (parts_of ls) in
        let short = picks_all (λ d. d.longest ≤ 254) (λ d. d.longest ≤ 254) (λ x y e k. rw e k) picks (parts_short version ground (p + 8) ls a.1) in
        let one = picks_all OneByte OneByte (λ x y e k. rw e k) picks (lines_one t.body) in
        record {
          sound = record { root = block_sized (template_of t).root root; groups = groups_sized (groups_of ls) groups; parts = parts_room (seen_parts u (parts_of ls)) short one };
          slots = record { root = block_lawful (template_of t).root root; groups = groups_lawful (groups_of ls) groups };
        }

  -- each block fits, and each data has room for its length
  pub geometry_sound : (version p u : ℕ) (t : Section) → section_geometry known version p t ≡ fine → SoundView (view_of known (seen_template u (template_of t)))
  geometry_sound version p u t e = (geometry_lays u version p t e).sound

  -- each field has a lawful type
  pub lawful_slots : (version p u : ℕ) (t : Section) → section_geometry known version p t ≡ fine → LawfulView (view_of known (seen_template u (template_of t)))
  lawful_slots version p u t e = (geometry_lays u version p t e).slots
