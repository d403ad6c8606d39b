-- A template of a well-formed dictionary, seen with the kinds of a lawful library: its fields fit, and it reads what it writes.
use Rattle.std.proofs.Common.{◌≡◌, ℕ, ◌^◌, ◌≤◌, Bool, true, false, List, [], ◌∷◌, map, length, take, Some, sym, refl, ap, ◌∙◌, subst, ap₂, arith}
use Rattle.std.specs.List.{AllByRecursion}
use Rattle.std.proofs.lemmas.List.{append-nil}
use Rattle.std.proofs.lemmas.Bool.{le-leb, eq-eqb}
use Rattle.types.specs.Meanings.{Meaning}
use Rattle.types.specs.Kinds.{Known, AllLawful}
use Rattle.schema.specs.Structure.{Field, Block, Group, Data, Template, Dictionary}
use Rattle.schema.specs.Geometry.{field_end}
use Rattle.schema.specs.Seen.{seen, template_at}
use Rattle.schema.specs.WellFormed.{Places, GoodField, GoodBlock, GoodGroup, GoodData, GoodTemplate, WellFormed}
use Rattle.schema.proofs.Picks.{picks_all}
use Rattle.schema.proofs.VersionsWellFormed.{seen_picks, good_template_at}
use Rattle.schema.proofs.EditionLaws.{find_holds}
use Rattle.message.specs.Blocks.{Slot, BlockView, block_bytes, Filled}
use Rattle.message.specs.Frames.{GroupView, DataView, View, Contents, length_fits, Entry, Entries, Groups, Parts, Holds}
use Rattle.message.specs.Messages.{slot_of, block_view, group_view, data_view, view_of}
use Rattle.message.proofs.Patterns.{SoundKind, sound_lawful}
use Rattle.message.proofs.Blocks.{Fits, Sized}
use Rattle.message.proofs.Passing.{RoomFor, Ahead, cut_block, cut_groups, cut_to, Reads, AllRead, ViewReads}
use Rattle.message.proofs.Making.{AllSized}

abbrev pub AllRoom : List DataView → Type 0
AllRoom [] = Unit {0}
AllRoom (d ∷ ds) = RoomFor d × AllRoom ds

-- a template whose blocks fit and whose data have room for their lengths
pub record SoundView (v : View) : Type 0 where
  pub root : Sized v.root
  pub groups : AllSized v.groups
  pub parts : AllRoom v.parts

-- ---- from a well-formed dictionary

module _ (known : Known) (lawful : AllLawful known) where
  fields_fit : (taken size : ℕ) (fs : List Field) → taken ≤ size → AllByRecursion (GoodField known) fs → Places known taken size fs → Fits taken (map (slot_of known) fs) size
  fields_fit taken size [] l g p = l
  fields_fit taken size (f ∷ fs) l g p =
      (p.0, subst SoundKind (sym g.0.known_type) (sound_lawful g.0.kind (lawful f.type f.argument g.0.kind g.0.known_type)), fields_fit (field_end known f) size fs p.1 g.1 p.2)

  module _ (version : ℕ) where
    pub block_sized : (b : Block) → GoodBlock known version b → Sized (block_view known b)
    block_sized b g = (fields_fit 0 b.size b.fields (omega arith) g.fields g.places, g.size_fits)

    groups_sized : (gs : List Group) → AllByRecursion (GoodGroup known version) gs → AllSized (map (group_view known) gs)
    groups_sized [] h = tt
    groups_sized (g ∷ gs) h = (block_sized g.block h.0.block, groups_sized gs h.1)

    parts_room : (ds : List Data) → AllByRecursion GoodData ds → AllRoom (map data_view ds)
    parts_room [] h = tt
    parts_room (d ∷ ds) h =
        let one : 256 ^ d.prefix ≡ 256 ^ 1 = ap (λ n. 256 ^ n) h.0.one_byte in
        let is : 256 ^ 1 ≡ 256 = refl in
        let most = h.0.most in
        (omega arith, parts_room ds h.1)

    pub view_sound : (t : Template) → GoodTemplate known version t → SoundView (view_of known t)
    view_sound t g = record { root = block_sized t.root g.root; groups = groups_sized t.groups g.groups; parts = parts_room t.parts g.parts }

  module _ (d : Dictionary) (w : WellFormed known d) where
    -- the template that is found at any version, one above the dictionary's too
    pub found_good : (n v : ℕ) (t : Template) → template_at d n v ≡ Some t → GoodTemplate known v t × (t.number ≡ n)
    found_good n v t e =
        find_holds (GoodTemplate known v) n (seen v d.templates) t
        (picks_all (GoodTemplate known d.version) (GoodTemplate known v) (λ x y r h. subst (GoodTemplate known v) (sym r.0) (good_template_at known d.version v y r.1 h)) (seen_picks v d.templates) w.templates) e

    pub found_sound : (n v : ℕ) (t : Template) → template_at d n v ≡ Some t → SoundView (view_of known t)
    found_sound n v t e = view_sound v t (found_good n v t e).0

-- ---- what a template holds is not cut by it

pub block_uncut : (fs : List Slot) (ms : List Meaning) → Filled fs ms → take (length fs) ms ≡ ms
block_uncut [] [] k = refl
block_uncut [] (m ∷ ms) k = absurd k
block_uncut (f ∷ fs) [] k = absurd k
block_uncut (f ∷ fs) (m ∷ ms) k = ap (λ r. m ∷ r) (block_uncut fs ms k.1)

parts_uncut : (ds : List DataView) (xs : List (List ℕ)) → Parts ds xs → take (length ds) xs ≡ xs
parts_uncut [] [] k = refl
parts_uncut [] (x ∷ xs) k = absurd k
parts_uncut (d ∷ ds) [] k = absurd k
parts_uncut (d ∷ ds) (x ∷ xs) k = ap (λ r. x ∷ r) (parts_uncut ds xs k.2)

module _ (closed : Bool) where
  entries_uncut : (b : BlockView) (es : List (List Meaning)) → Entries closed b es → map (cut_block b) es ≡ es
  entries_uncut b [] k = refl
  entries_uncut b (ms ∷ es) k = ap₂ (λ x xs. x ∷ xs) (block_uncut b.slots ms k.0.0) (entries_uncut b es k.1)

  groups_uncut : (gs : List GroupView) (ess : List (List (List Meaning))) → Groups closed gs ess → cut_groups gs ess ≡ ess
  groups_uncut [] [] k = refl
  groups_uncut [] (es ∷ ess) k = absurd k
  groups_uncut (g ∷ gs) [] k = absurd k
  groups_uncut (g ∷ gs) (es ∷ ess) k = ap₂ (λ x xs. x ∷ xs) (entries_uncut g.block es k.1) (groups_uncut gs ess k.2)

  pub uncut : (v : View) (c : Contents) → Holds closed v c → cut_to v c ≡ c
  uncut v c h = λ i. record { root = block_uncut v.root.slots c.root h.root.0 i; groups = groups_uncut v.groups c.groups h.groups i; parts = parts_uncut v.parts c.parts h.parts i }

-- ---- a template reads what it writes

module _ (newer : Bool) where
  same_length : (n : ℕ) → length_fits newer n n ≡ true
  same_length n = by newer
    where
      by : (b : Bool) → length_fits b n n ≡ true
      by true = le-leb n n (omega arith)
      by false = eq-eqb n n refl

  reads_itself : (b : BlockView) → Sized b → Reads newer b b
  reads_itself b s = record {
    own = s;
    wide = s;
    size = same_length b.size;
    tail = λ ms. [];
    begins = λ ms k. ap (block_bytes b) (sym (block_uncut b.slots ms k)) ∙ sym (append-nil (block_bytes b (cut_block b ms)));
    entry = λ closed ms k. subst (Entry closed b) (sym (block_uncut b.slots ms k.0)) k;
  }

  groups_read_themselves : (gs : List GroupView) → AllSized gs → AllRead newer gs gs
  groups_read_themselves [] s = tt
  groups_read_themselves (g ∷ gs) s = (reads_itself g.block s.0, groups_read_themselves gs s.1)

  ahead_itself : (ds : List DataView) → AllRoom ds → Ahead newer ds ds
  ahead_itself [] r = tt
  ahead_itself (d ∷ ds) r = ((refl, refl, r.0), ahead_itself ds r.1)

  pub view_reads_itself : (v : View) → SoundView v → ViewReads newer v v
  view_reads_itself v s = record { root = reads_itself v.root s.root; groups = groups_read_themselves v.groups s.groups; parts = ahead_itself v.parts s.parts }
