-- The items of a frame tell what its message holds, in the same order.
use Rattle.std.proofs.Common.{◌≡◌, ℕ, zero, suc, ◌+◌, ◌-◌, List, [], ◌∷◌, ◌++◌, map, length, take, drop, sym, refl, ap, ◌∙◌, ap₂, arith}
use Rattle.std.specs.List.{AllByRecursion}
use Rattle.std.proofs.lemmas.List.{drop-drop, map-append}
use Rattle.types.specs.Kinds.{Known}
use Rattle.schema.specs.Structure.{Field, Block, Group, Data, Template}
use Rattle.schema.specs.Geometry.{kind_of, width_or_0, field_end}
use Rattle.schema.specs.WellFormed.{Places, GoodBlock, GoodGroup, GoodTemplate}
use Rattle.message.specs.Blocks.{BlockView, read_as, meanings_from, block_meanings}
use Rattle.message.specs.Frames.{entry_length, entry_count, group_length, groups_length, part_length, entries_read, groups_read, parts_read, content_of, contents_read}
use Rattle.message.specs.Messages.{slot_of, block_view, group_view, data_view, view_of, stated_root}
use Rattle.message.specs.Lookup.{groups_end}
use Rattle.message.specs.Walks.{block_items, entries_items, groups_items, parts_items, items_by, told_field, told_group, told_part, told_by, told_block, told_entries, told_groups, told_parts, told_contents}
use Rattle.message.proofs.Lookups.{behind_groups}

-- as many entries are read as are counted
entries_counted : (b : BlockView) (stride n : ℕ) (rest : List ℕ) → length (entries_read b stride n rest) ≡ n
entries_counted b stride zero rest = refl
entries_counted b stride (suc n) rest = ap suc (entries_counted b stride n (drop stride rest))

module _ (known : Known) (bs : List ℕ) where
  parts_told : (q : ℕ) (ds : List Data) (rest : List ℕ) → rest ≡ drop q bs → map (told_by known) (parts_items bs q ds) ≡ told_parts ds (parts_read (map data_view ds) rest)
  parts_told q [] rest is = refl
  parts_told q (d ∷ ds) rest is =
      let w = d.prefix in
      let next : drop (part_length w rest) rest ≡ drop (q + part_length w (drop q bs)) bs = ap (λ y. drop (part_length w y) y) is ∙ drop-drop (part_length w (drop q bs)) q bs in
      ap₂ (λ x xs. x ∷ xs) (ap (λ y. told_part d.tag (content_of w y)) (sym is)) (parts_told (q + part_length w (drop q bs)) ds (drop (part_length w rest) rest) next)

  fields_told : (base at size : ℕ) (fs : List Field) (rest : List ℕ) → rest ≡ drop (base + at) bs → Places known at size fs → map (told_by known) (block_items known bs base fs) ≡ told_block fs (meanings_from at (map (slot_of known) fs) rest)
  fields_told base at size [] rest is places = refl
  fields_told base at size (f ∷ fs) rest is places =
      let begins = places.0 in
      let k = kind_of known f in
      let w = width_or_0 k in
      let gap = f.offset - at in
      let here : drop gap rest ≡ drop (base + f.offset) bs = ap (drop gap) is ∙ drop-drop gap (base + at) bs ∙ ap (λ n. drop n bs) (omega arith) in
      let next : drop w (drop gap rest) ≡ drop (base + field_end known f) bs = ap (drop w) here ∙ drop-drop w (base + f.offset) bs ∙ ap (λ n. drop n bs) (omega arith) in
      ap₂ (λ x xs. x ∷ xs) (ap (λ y. told_field f.tag (read_as k (take w y))) (sym here)) (fields_told base (field_end known f) size fs (drop w (drop gap rest)) next places.2)

  block_told : (version base : ℕ) (b : Block) (rest : List ℕ) → rest ≡ drop base bs → GoodBlock known version b → map (told_by known) (block_items known bs base b.fields) ≡ told_block b.fields (block_meanings (block_view known b) rest)
  block_told version base b rest is g = fields_told base 0 b.size b.fields rest (is ∙ ap (λ n. drop n bs) (omega arith)) g.places

  entries_told : (version stride : ℕ) (b : Block) (n q : ℕ) (rest : List ℕ) → rest ≡ drop q bs → GoodBlock known version b → map (told_by known) (entries_items known bs b.fields stride n q) ≡ told_entries b.fields (entries_read (block_view known b) stride n rest)
  entries_told version stride b zero q rest is g = refl
  entries_told version stride b (suc n) q rest is g =
      let next : drop stride rest ≡ drop (q + stride) bs = ap (drop stride) is ∙ drop-drop stride q bs in
      map-append (told_by known) (block_items known bs q b.fields) (entries_items known bs b.fields stride n (q + stride))
      ∙ ap₂ (λ x y. x ++ y) (block_told version q b rest is g) (entries_told version stride b n (q + stride) (drop stride rest) next g)

  groups_told : (version q : ℕ) (gs : List Group) (rest : List ℕ) → rest ≡ drop q bs → AllByRecursion (GoodGroup known version) gs → map (told_by known) (groups_items known bs q gs) ≡ told_groups gs (groups_read (map (group_view known) gs) rest)
  groups_told version q [] rest is h = refl
  groups_told version q (g ∷ gs) rest is h =
      let b = g.block in
      let head : drop 3 rest ≡ drop (q + 3) bs = ap (drop 3) is ∙ drop-drop 3 q bs in
      let next : drop (group_length rest) rest ≡ drop (q + group_length (drop q bs)) bs = ap (λ y. drop (group_length y) y) is ∙ drop-drop (group_length (drop q bs)) q bs in
      let es = entries_read (block_view known b) (entry_length rest) (entry_count rest) (drop 3 rest) in
      let count : entry_count (drop q bs) ≡ length es = ap entry_count (sym is) ∙ sym (entries_counted (block_view known b) (entry_length rest) (entry_count rest) (drop 3 rest)) in
      let entries : map (told_by known) (entries_items known bs b.fields (entry_length (drop q bs)) (entry_count (drop q bs)) (q + 3)) ≡ told_entries b.fields es =
      ap (λ y. map (told_by known) (entries_items known bs b.fields (entry_length y) (entry_count y) (q + 3))) (sym is)
      ∙ entries_told version (entry_length rest) b (entry_count rest) (q + 3) (drop 3 rest) head h.0.block in
      ap₂ (λ x xs. x ∷ xs) (ap (told_group g.tag) count)
      (map-append (told_by known) (entries_items known bs b.fields (entry_length (drop q bs)) (entry_count (drop q bs)) (q + 3)) (groups_items known bs (q + group_length (drop q bs)) gs)
      ∙ ap₂ (λ x y. x ++ y) entries (groups_told version (q + group_length (drop q bs)) gs (drop (group_length rest) rest) next h.1))

  -- the items by a template tell the contents that the bytes read as by it
  pub items_told : (version : ℕ) (t : Template) → GoodTemplate known version t → map (told_by known) (items_by known bs t) ≡ told_contents t (contents_read (view_of known t) (stated_root bs) (drop 12 bs))
  items_told version t g =
      let given = stated_root bs in
      let b2 = drop given (drop 12 bs) in
      let second : b2 ≡ drop (12 + given) bs = drop-drop given 12 bs in
      let q = groups_end bs (12 + given) t.groups in
      let groups = groups_items known bs (12 + given) t.groups in
      let parts = parts_items bs q t.parts in
      map-append (told_by known) (block_items known bs 12 t.root.fields) (groups ++ parts)
      ∙ ap₂ (λ x y. x ++ y) (block_told version 12 t.root (drop 12 bs) refl g.root)
      (map-append (told_by known) groups parts
      ∙ ap₂ (λ x y. x ++ y) (groups_told version (12 + given) t.groups b2 second g.groups) (parts_told q t.parts (drop (groups_length (map (group_view known) t.groups) b2) b2) (behind_groups known bs t.groups (12 + given) b2 second)))
