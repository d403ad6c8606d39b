-- What the bytes of an accepted frame read at a group, an entry and a tag is what the message has there.
use Rattle.std.proofs.Common.{◌≡◌, ℕ, zero, suc, ◌+◌, ◌-◌, ◌*◌, ◌<◌, Bool, false, cond, ◌&&◌, eqb, ltb, leb, List, [], ◌∷◌, map, length, take, drop, Some, Ok, sym, refl, ap, ◌∙◌, subst, ⊎_elim, suc-mul, zero-mul, arith}
use Rattle.std.specs.List.{AllByRecursion}
use Rattle.std.proofs.lemmas.List.{drop-drop}
use Rattle.std.proofs.lemmas.Bool.{lt-leb, lt-ltb, le-ltb, cases_lt}
use Rattle.std.proofs.lemmas.Bool.Decides.{leb_tells, eqb_tells}
use Rattle.wire.specs.Refusals.{located_as}
use Rattle.types.specs.Kinds.{Known}
use Rattle.types.specs.Answers.{read_of}
use Rattle.schema.specs.Verdicts.{fine}
use Rattle.schema.specs.Structure.{Field, Block, Group, Data, Template}
use Rattle.schema.specs.Geometry.{kind_of, width_or_0, field_end}
use Rattle.schema.specs.Seen.{seen_fields, seen_parts, seen_block, seen_group, seen_template}
use Rattle.schema.specs.WellFormed.{Sinces, Places, GoodBlock, GoodGroup, GoodTemplate}
use Rattle.message.specs.Blocks.{read_as, padding_verdict, field_verdict, fields_verdict, block_verdict, meanings_from, block_meanings}
use Rattle.message.specs.Frames.{entry_length, entry_count, group_length, groups_length, content_of, part_length, length_fits, count_fits, entries_verdict, group_verdict, groups_verdict, contents_verdict, entries_read, groups_read, parts_read, contents_read}
use Rattle.message.specs.Messages.{slot_of, block_view, group_view, data_view, view_of, stated_root}
use Rattle.message.specs.Lookup.{not_found, of_field, of_root, meaning_at, data_at, in_entries, in_groups, in_contents, field_at, group_at, part_at, groups_end, in_bytes}
use Rattle.message.proofs.Verdicts.{both, told}
use Rattle.message.proofs.Blocks.{field_told}

ltb_suc : (a b : ℕ) → ltb (suc a) (suc b) ≡ ltb a b
ltb_suc a b = ⊎_elim
    (λ l. lt-ltb (suc a) (suc b) (omega arith) ∙ sym (lt-ltb a b l))
    (λ l. le-ltb (suc a) (suc b) (omega arith) ∙ sym (le-ltb a b l))
    (cases_lt a b)

-- ---- data

-- the data begin where the groups end
pub behind_groups : (known : Known) (bs : List ℕ) (gs : List Group) (q : ℕ) (rest : List ℕ) → rest ≡ drop q bs → drop (groups_length (map (group_view known) gs) rest) rest ≡ drop (groups_end bs q gs) bs
behind_groups known bs [] q rest is = is
behind_groups known bs (g ∷ gs) q rest is =
    let next : drop (group_length rest) rest ≡ drop (q + group_length (drop q bs)) bs = ap (λ y. drop (group_length y) y) is ∙ drop-drop (group_length (drop q bs)) q bs in
    sym (drop-drop (groups_length (map (group_view known) gs) (drop (group_length rest) rest)) (group_length rest) rest)
    ∙ behind_groups known bs gs (q + group_length (drop q bs)) (drop (group_length rest) rest) next

-- and end at each version alike
groups_end_seen : (u : ℕ) (bs : List ℕ) (q : ℕ) (gs : List Group) → groups_end bs q (map (seen_group u) gs) ≡ groups_end bs q gs
groups_end_seen u bs q [] = refl
groups_end_seen u bs q (g ∷ gs) = groups_end_seen u bs (q + group_length (drop q bs)) gs

module _ (u : ℕ) (bs : List ℕ) where
  newer_parts : (version before q : ℕ) (ds : List Data) (tag : ℕ) → u < before → Sinces version before (map (λ d. d.since) ds) → data_at ds [] tag ≡ part_at u bs q ds tag
  newer_parts version before q [] tag l h = refl
  newer_parts version before q (d ∷ ds) tag l h =
      let m = h.0 in
      let new : leb d.since u ≡ false = lt-leb d.since u (omega arith) in
      ⊎_elim
      (λ a. rw (a.0, new))
      (λ a. rw (a.0, new) (newer_parts version d.since q ds tag (omega arith) h.2))
      (eqb_tells d.tag tag)

  parts_same : (version before q : ℕ) (ds : List Data) (rest : List ℕ) (tag : ℕ) → rest ≡ drop q bs → Sinces version before (map (λ d. d.since) ds) → data_at ds (parts_read (map data_view (seen_parts u ds)) rest) tag ≡ part_at u bs q ds tag
  parts_same version before q [] rest tag is h = refl
  parts_same version before q (d ∷ ds) rest tag is h = ⊎_elim
      (λ a.
      let seen_are : seen_parts u (d ∷ ds) ≡ d ∷ seen_parts u ds = rw a.0 in
      let w = d.prefix in
      let next : drop (part_length w rest) rest ≡ drop (q + part_length w (drop q bs)) bs = ap (λ y. drop (part_length w y) y) is ∙ drop-drop (part_length w (drop q bs)) q bs in
      let ih = parts_same version d.since (q + part_length w (drop q bs)) ds (drop (part_length w rest) rest) tag next h.2 in
      ap (λ x. data_at (d ∷ ds) (parts_read (map data_view x) rest) tag) seen_are
      ∙ ⊎_elim
      (λ b. rw (b.0, a.0) (ap (λ y. Some (content_of w y)) is))
      (λ b. rw (b.0, a.0) ih)
      (eqb_tells d.tag tag))
      (λ a.
      let seen_are : seen_parts u (d ∷ ds) ≡ [] = rw a.0 in
      ap (λ x. data_at (d ∷ ds) (parts_read (map data_view x) rest) tag) seen_are
      ∙ newer_parts version d.since q (d ∷ ds) tag a.1 (omega arith, h.1, h.2))
      (leb_tells d.since u)

module _ (known : Known) (u : ℕ) (bs : List ℕ) where
  -- ---- the fields of a block

  newer_fields : (version before base : ℕ) (fs : List Field) (tag : ℕ) → u < before → Sinces version before (map (λ f. f.since) fs) → meaning_at fs [] tag ≡ field_at known u bs base fs tag
  newer_fields version before base [] tag l h = refl
  newer_fields version before base (f ∷ fs) tag l h =
      let m = h.0 in
      let new : leb f.since u ≡ false = lt-leb f.since u (omega arith) in
      ⊎_elim
      (λ a. rw (a.0, new))
      (λ a. rw a.0 (newer_fields version f.since base fs tag (omega arith) h.2))
      (eqb_tells f.tag tag)

  module _ (closed : Bool) (version p size length_now base : ℕ) where
    fields_same : (before at : ℕ) (fs : List Field) (rest : List ℕ) (tag : ℕ) → rest ≡ drop (base + at) bs → Places known at size fs → Sinces version before (map (λ f. f.since) fs) →
        fields_verdict closed p at (map (slot_of known) (seen_fields u fs)) length_now rest ≡ fine →
        meaning_at fs (meanings_from at (map (slot_of known) (seen_fields u fs)) rest) tag ≡ field_at known u bs base fs tag
    fields_same before at [] rest tag is places h e = refl
    fields_same before at (f ∷ fs) rest tag is places h e = ⊎_elim
        (λ a.
        let begins = places.0 in
        let seen_are : seen_fields u (f ∷ fs) ≡ f ∷ seen_fields u fs = rw a.0 in
        let k = kind_of known f in
        let w = width_or_0 k in
        let gap = f.offset - at in
        let here : drop gap rest ≡ drop (base + f.offset) bs = ap (drop gap) is ∙ drop-drop gap (base + at) bs ∙ ap (λ n. drop n bs) (omega arith) in
        let next : drop w (drop gap rest) ≡ drop (base + field_end known f) bs = ap (drop w) here ∙ drop-drop w (base + f.offset) bs ∙ ap (λ n. drop n bs) (omega arith) in
        let v : fields_verdict closed p at (map (slot_of known) (f ∷ seen_fields u fs)) length_now rest ≡ fine = subst (λ x. fields_verdict closed p at (map (slot_of known) x) length_now rest ≡ fine) seen_are e in
        let v1 = both (padding_verdict (p + at) (take gap rest)) _ v in
        let v2 = both (field_verdict k (closed && eqb f.presence 1) (p + f.offset) f.tag (take w (drop gap rest))) _ v1.1 in
        let j = field_told k (closed && eqb f.presence 1) (p + f.offset) f.tag (take w (drop gap rest)) v2.0 in
        let reads : read_of k (take w (drop (base + f.offset) bs)) ≡ Ok (read_as k (take w (drop gap rest))) = ap (λ y. read_of k (take w y)) (sym here) ∙ j.reads in
        let ih = fields_same f.since (field_end known f) fs (drop w (drop gap rest)) tag next places.2 h.2 v2.1 in
        ap (λ x. meaning_at (f ∷ fs) (meanings_from at (map (slot_of known) x) rest) tag) seen_are
        ∙ ⊎_elim
        (λ b. rw (b.0, a.0) (sym (ap (λ r. Some (located_as r (base + f.offset) f.tag)) reads)))
        (λ b. rw b.0 ih)
        (eqb_tells f.tag tag))
        (λ a.
        let seen_are : seen_fields u (f ∷ fs) ≡ [] = rw a.0 in
        ap (λ x. meaning_at (f ∷ fs) (meanings_from at (map (slot_of known) x) rest) tag) seen_are
        ∙ newer_fields version f.since base (f ∷ fs) tag a.1 (omega arith, h.1, h.2))
        (leb_tells f.since u)

  pub block_same : (closed : Bool) (version p base : ℕ) (b : Block) (rest : List ℕ) (tag : ℕ) → GoodBlock known version b → rest ≡ drop base bs → block_verdict closed p (block_view known (seen_block u b)) rest ≡ fine →
      meaning_at b.fields (block_meanings (block_view known (seen_block u b)) rest) tag ≡ field_at known u bs base b.fields tag
  block_same closed version p base b rest tag g is e =
      fields_same closed version p b.size (seen_block u b).size base 0 0 b.fields rest tag (is ∙ ap (λ n. drop n bs) (omega arith)) g.places g.sinces e

  -- ---- entries and groups

  entries_same : (closed : Bool) (version stride t : ℕ) (b : Block) (n p q : ℕ) (rest : List ℕ) (group entry tag : ℕ) → GoodBlock known version b → rest ≡ drop q bs →
      entries_verdict closed (block_view known (seen_block u b)) stride t n p rest ≡ fine →
      in_entries b.fields (entries_read (block_view known (seen_block u b)) stride n rest) group entry tag ≡ cond (ltb entry n) (of_field (field_at known u bs (q + entry * stride) b.fields tag) tag) (not_found group)
  entries_same closed version stride t b zero p q rest group entry tag g is e = rw (le-ltb entry 0 (omega arith))
  entries_same closed version stride t b (suc n) p q rest group zero tag g is e =
      let v = told (leb stride (length rest)) _ _ e in
      let v1 = both (block_verdict closed p (block_view known (seen_block u b)) rest) _ v.1 in
      let first : q + 0 * stride ≡ q = rw zero-mul (omega arith) in
      rw (lt-ltb 0 (suc n) (omega arith), first) (ap (λ o. of_field o tag) (block_same closed version p q b rest tag g is v1.0))
  entries_same closed version stride t b (suc n) p q rest group (suc entry) tag g is e =
      let v = told (leb stride (length rest)) _ _ e in
      let v1 = both (block_verdict closed p (block_view known (seen_block u b)) rest) _ v.1 in
      let next : drop stride rest ≡ drop (q + stride) bs = ap (drop stride) is ∙ drop-drop stride q bs in
      let ih = entries_same closed version stride t b n (p + stride) (q + stride) (drop stride rest) group entry tag g next v1.1 in
      let place : q + stride + entry * stride ≡ q + suc entry * stride = rw suc-mul (omega arith) in
      ih ∙ (λ i. cond (sym (ltb_suc entry n) i) (of_field (field_at known u bs (place i) b.fields tag) tag) (not_found group))

  groups_same : (closed newer : Bool) (version : ℕ) (gs : List Group) (p q : ℕ) (rest : List ℕ) (group entry tag : ℕ) → AllByRecursion (GoodGroup known version) gs → rest ≡ drop q bs →
      groups_verdict closed newer (map (group_view known) (map (seen_group u) gs)) p rest ≡ fine →
      in_groups gs (groups_read (map (group_view known) (map (seen_group u) gs)) rest) group entry tag ≡ group_at known u bs q gs group entry tag
  groups_same closed newer version [] p q rest group entry tag h is e = refl
  groups_same closed newer version (g ∷ gs) p q rest group entry tag h is e =
      let b = g.block in
      let v = both (group_verdict closed newer (group_view known (seen_group u g)) p rest) _ e in
      let v1 = told (leb 3 (length rest)) _ _ v.0 in
      let v2 = told (length_fits newer (entry_length rest) (seen_block u b).size) _ _ v1.1 in
      let v3 = told (count_fits (entry_count rest)) _ _ v2.1 in
      let head : drop 3 rest ≡ drop (q + 3) bs = ap (drop 3) is ∙ drop-drop 3 q bs in
      let here = entries_same closed version (entry_length rest) g.tag b (entry_count rest) (p + 3) (q + 3) (drop 3 rest) group entry tag h.0.block head v3.1 in
      let next : drop (group_length rest) rest ≡ drop (q + group_length (drop q bs)) bs = ap (λ y. drop (group_length y) y) is ∙ drop-drop (group_length (drop q bs)) q bs in
      let ih = groups_same closed newer version gs (p + group_length rest) (q + group_length (drop q bs)) (drop (group_length rest) rest) group entry tag h.1 next v.1 in
      ⊎_elim
      (λ a. rw a.0 (here ∙ ap (λ y. cond (ltb entry (entry_count y)) (of_field (field_at known u bs (q + 3 + entry * entry_length y) b.fields tag) tag) (not_found group)) is))
      (λ a. rw a.0 ih)
      (eqb_tells g.tag group)

  -- ---- contents

  -- what an accepted frame's bytes read, by all lines of the template, is what its contents have there
  pub contents_same : (closed newer : Bool) (version : ℕ) (t : Template) (group entry tag : ℕ) → GoodTemplate known version t →
      contents_verdict closed newer (view_of known (seen_template u t)) (stated_root bs) 12 (drop 12 bs) ≡ fine →
      in_contents t (contents_read (view_of known (seen_template u t)) (stated_root bs) (drop 12 bs)) group entry tag ≡ in_bytes known u bs t group entry tag
  contents_same closed newer version t group entry tag g e =
      let given = stated_root bs in
      let v = view_of known (seen_template u t) in
      let b2 = drop given (drop 12 bs) in
      let second : b2 ≡ drop (12 + given) bs = drop-drop given 12 bs in
      let v1 = told (length_fits newer given v.root.size) _ _ e in
      let v2 = told (leb given (length (drop 12 bs))) _ _ v1.1 in
      let v3 = both (block_verdict closed 12 v.root (drop 12 bs)) _ v2.1 in
      let v4 = both (groups_verdict closed newer v.groups (12 + given) b2) _ v3.1 in
      let fields = block_same closed version 12 12 t.root (drop 12 bs) tag g.root refl v3.0 in
      let parts = parts_same u bs version 0 (groups_end bs (12 + given) t.groups) t.parts (drop (groups_length v.groups b2) b2) tag (behind_groups known bs (map (seen_group u) t.groups) (12 + given) b2 second ∙ ap (λ n. drop n bs) (groups_end_seen u bs (12 + given) t.groups)) g.part_sinces in
      let groups = groups_same closed newer version t.groups (12 + given) (12 + given) b2 group entry tag g.groups second v4.0 in
      λ i. cond (eqb group 0) (cond (eqb entry 0) (of_root (fields i) (parts i) tag) (not_found 0)) (groups i)
