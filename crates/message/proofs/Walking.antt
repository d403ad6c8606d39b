-- The items of an accepted frame follow one another and, with the bytes between them, make up the frame.
use Rattle.std.proofs.Common.{◌≡◌, ℕ, zero, suc, ◌+◌, ◌-◌, ◌*◌, ◌≤◌, Bool, true, false, ltb, leb, List, [], ◌∷◌, ◌++◌, map, length, take, drop, Ok, sym, refl, ap, ◌∙◌, subst, ap₂, suc-mul, zero-mul, arith, length-drop}
use Rattle.std.specs.List.{AllByRecursion}
use Rattle.std.proofs.lemmas.List.{drop-drop, take-append-drop, length-take-le}
use Rattle.std.proofs.lemmas.Bool.{leb-true, eqb-true}
use Rattle.wire.specs.Bytes.{Bytes}
use Rattle.wire.specs.Refusals.{bind}
use Rattle.types.specs.Kinds.{Known}
use Rattle.schema.specs.Verdicts.{fine}
use Rattle.schema.specs.Structure.{Field, Block, Group, Data, Template}
use Rattle.schema.specs.Geometry.{kind_of, width_or_0, field_end}
use Rattle.schema.specs.Reading.{template_of, version_of, dictionary_of}
use Rattle.schema.specs.Seen.{seen_template}
use Rattle.schema.specs.WellFormed.{Places, GoodBlock, GoodGroup, GoodTemplate}
use Rattle.schema.specs.Laws.{PassesExactlyAsWrittenOut, Checked}
use Rattle.schema.proofs.VersionsWellFormed.{good_template_at}
use Rattle.message.specs.Blocks.{block_verdict}
use Rattle.message.specs.Frames.{entry_length, entry_count, group_length, content_length, part_length, content_of, length_fits, count_fits, entries_verdict, group_verdict, groups_verdict, parts_verdict, contents_verdict, groups_length}
use Rattle.message.specs.Messages.{block_view, group_view, data_view, view_of, contents_by, contents_read_by, stated_root, stated_version, verdict_when}
use Rattle.message.specs.Lookup.{groups_end}
use Rattle.message.specs.Walks.{Item, place_of, bytes_of, block_items, entries_items, groups_items, parts_items, items_by, items_in, LaidOut, filled_out, told_template}
use Rattle.message.specs.Laws.{WalkedThrough}
use Rattle.message.proofs.Verdicts.{both, told}
use Rattle.message.proofs.Lookups.{behind_groups}
use Rattle.message.proofs.Telling.{items_told}
use Rattle.message.proofs.FrameReading.{contents_passed, template_of_frame}

module _ (bs : List ℕ) where
  -- ---- items that follow one another

  laid_before : (o p q : ℕ) (is : List Item) → o ≤ p → LaidOut bs p q is → LaidOut bs o q is
  laid_before o p q [] l h = omega arith
  laid_before o p q (i ∷ is) l h = let k = h.0 in (omega arith, h.1, h.2)

  laid_further : (p q r : ℕ) (is : List Item) → q ≤ r → LaidOut bs p q is → LaidOut bs p r is
  laid_further p q r [] l h = omega arith
  laid_further p q r (i ∷ is) l h = (h.0, h.1, laid_further (place_of i + length (bytes_of i)) q r is l h.2)

  laid_on : (p q r : ℕ) (is js : List Item) → LaidOut bs p q is → LaidOut bs q r js → LaidOut bs p r (is ++ js)
  laid_on p q r [] js h k = laid_before p q r js h k
  laid_on p q r (i ∷ is) js h k = (h.0, h.1, laid_on (place_of i + length (bytes_of i)) q r is js h.2 k)

  -- with the bytes between them they make up the bytes from where they begin
  pub made_up : (p q : ℕ) (is : List Item) → LaidOut bs p q is → filled_out bs p is ≡ drop p bs
  made_up p q [] h = refl
  made_up p q (i ∷ is) h =
      let n = length (bytes_of i) in
      let before = h.0 in
      let rest = made_up (place_of i + n) q is h.2 in
      let here : bytes_of i ++ filled_out bs (place_of i + n) is ≡ drop (place_of i) bs =
      ap₂ (λ x y. x ++ y) h.1 (rest ∙ sym (drop-drop n (place_of i) bs)) ∙ take-append-drop n (drop (place_of i) bs) in
      let gap : drop (place_of i) bs ≡ drop (place_of i - p) (drop p bs) = ap (λ k. drop k bs) (omega arith) ∙ sym (drop-drop (place_of i - p) p bs) in
      ap (λ y. take (place_of i - p) (drop p bs) ++ y) (here ∙ gap) ∙ take-append-drop (place_of i - p) (drop p bs)

  -- bytes that are there are as many as were asked for
  asked : (w p : ℕ) → p + w ≤ length bs → length (take w (drop p bs)) ≡ w
  asked w p l = length-take-le w (drop p bs) (rw length-drop (omega arith))

  own_bytes : (w p : ℕ) → p + w ≤ length bs → take w (drop p bs) ≡ take (length (take w (drop p bs))) (drop p bs)
  own_bytes w p l = ap (λ n. take n (drop p bs)) (sym (asked w p l))

  -- ---- data

  parts_laid : (newer : Bool) (ds : List Data) (p q : ℕ) (rest : List ℕ) → rest ≡ drop q bs → q ≤ length bs → parts_verdict newer (map data_view ds) p rest ≡ fine → LaidOut bs q (length bs) (parts_items bs q ds)
  parts_laid newer [] p q rest is l e = l
  parts_laid newer (d ∷ ds) p q rest is l e =
      let w = d.prefix in
      let v1 = told (leb w (length rest)) _ _ e in
      let v2 = told (leb (content_length w rest) d.longest) _ _ v1.1 in
      let v3 = told (leb (part_length w rest) (length rest)) _ _ v2.1 in
      let there = leb-true (part_length w rest) (length rest) v3.0 in
      let n = content_length w (drop q bs) in
      let counted : content_length w rest ≡ n = ap (content_length w) is in
      let long : length rest ≡ length bs - q = ap length is ∙ length-drop q bs in
      let fits : q + (w + n) ≤ length bs = omega arith in
      let next : drop (part_length w rest) rest ≡ drop (q + (w + n)) bs = ap (λ y. drop (part_length w y) y) is ∙ drop-drop (w + n) q bs in
      let ih = parts_laid newer ds (p + part_length w rest) (q + (w + n)) (drop (part_length w rest) rest) next fits v3.1 in
      let content : content_of w (drop q bs) ≡ take n (drop (q + w) bs) = ap (take n) (drop-drop w q bs) in
      let size : length (content_of w (drop q bs)) ≡ n = ap length content ∙ asked n (q + w) (omega arith) in
      let own : content_of w (drop q bs) ≡ take (length (content_of w (drop q bs))) (drop (q + w) bs) = content ∙ ap (λ k. take k (drop (q + w) bs)) (sym size) in
      let behind : q + (w + n) ≡ q + w + length (content_of w (drop q bs)) = omega arith in
      (omega arith, own, subst (λ k. LaidOut bs k (length bs) (parts_items bs (q + (w + n)) ds)) behind ih)

  module _ (known : Known) where
    -- ---- the fields of a block

    fields_laid : (base at size : ℕ) (fs : List Field) → Places known at size fs → at ≤ size → base + size ≤ length bs → LaidOut bs (base + at) (base + size) (block_items known bs base fs)
    fields_laid base at size [] places l there = omega arith
    fields_laid base at size (f ∷ fs) places l there =
        let w = width_or_0 (kind_of known f) in
        let begins = places.0 in
        let ends = places.1 in
        let fits : base + f.offset + w ≤ length bs = omega arith in
        let ih = fields_laid base (field_end known f) size fs places.2 places.1 there in
        let long = asked w (base + f.offset) fits in
        let behind : base + field_end known f ≡ base + f.offset + length (take w (drop (base + f.offset) bs)) = omega arith in
        (omega arith, own_bytes w (base + f.offset) fits, subst (λ k. LaidOut bs k (base + size) (block_items known bs base fs)) behind ih)

    block_laid : (base stride version : ℕ) (b : Block) → GoodBlock known version b → b.size ≤ stride → base + stride ≤ length bs → LaidOut bs base (base + stride) (block_items known bs base b.fields)
    block_laid base stride version b g l there =
        let start : base + 0 ≡ base = omega arith in
        laid_further base (base + b.size) (base + stride) (block_items known bs base b.fields) (omega arith)
        (subst (λ k. LaidOut bs k (base + b.size) (block_items known bs base b.fields)) start (fields_laid base 0 b.size b.fields g.places (omega arith) (omega arith)))

    -- ---- entries and groups

    entries_laid : (closed : Bool) (version stride t : ℕ) (b : Block) (n p q : ℕ) (rest : List ℕ) → GoodBlock known version b → b.size ≤ stride → rest ≡ drop q bs → q ≤ length bs →
        entries_verdict closed (block_view known b) stride t n p rest ≡ fine → (q + n * stride ≤ length bs) × LaidOut bs q (q + n * stride) (entries_items known bs b.fields stride n q)
    entries_laid closed version stride t b zero p q rest g wide is l e = (rw zero-mul (omega arith), rw zero-mul (omega arith))
    entries_laid closed version stride t b (suc n) p q rest g wide is l e =
        let v = told (leb stride (length rest)) _ _ e in
        let v1 = both (block_verdict closed p (block_view known b) rest) _ v.1 in
        let there = leb-true stride (length rest) v.0 in
        let long : length rest ≡ length bs - q = ap length is ∙ length-drop q bs in
        let fits : q + stride ≤ length bs = omega arith in
        let next : drop stride rest ≡ drop (q + stride) bs = ap (drop stride) is ∙ drop-drop stride q bs in
        let ih = entries_laid closed version stride t b n (p + stride) (q + stride) (drop stride rest) g wide next fits v1.1 in
        let first = ih.0 in
        let ends : q + stride + n * stride ≡ q + suc n * stride = rw suc-mul (omega arith) in (
          subst (λ k. k ≤ length bs) ends first,
          subst (λ k. LaidOut bs q k (block_items known bs q b.fields ++ entries_items known bs b.fields stride n (q + stride))) ends
              (laid_on q (q + stride) (q + stride + n * stride) (block_items known bs q b.fields) (entries_items known bs b.fields stride n (q + stride)) (block_laid q stride version b g wide fits) ih.1),
        )

    wide_enough : (newer : Bool) (given own : ℕ) → length_fits newer given own ≡ true → own ≤ given
    wide_enough true given own e = leb-true own given e
    wide_enough false given own e = let k = eqb-true given own e in omega arith

    groups_laid : (closed newer : Bool) (version : ℕ) (gs : List Group) (p q : ℕ) (rest : List ℕ) → AllByRecursion (GoodGroup known version) gs → rest ≡ drop q bs → q ≤ length bs →
        groups_verdict closed newer (map (group_view known) gs) p rest ≡ fine → (groups_end bs q gs ≤ length bs) × LaidOut bs q (groups_end bs q gs) (groups_items known bs q gs)
    groups_laid closed newer version [] p q rest h is l e = (l, omega arith)
    groups_laid closed newer version (g ∷ gs) p q rest h is l e =
        let b = g.block in
        let v = both (group_verdict closed newer (group_view known g) p rest) _ e in
        let v1 = told (leb 3 (length rest)) _ _ v.0 in
        let v2 = told (length_fits newer (entry_length rest) b.size) _ _ v1.1 in
        let v3 = told (count_fits (entry_count rest)) _ _ v2.1 in
        let three = leb-true 3 (length rest) v1.0 in
        let stride = entry_length (drop q bs) in
        let n = entry_count (drop q bs) in
        let long : length rest ≡ length bs - q = ap length is ∙ length-drop q bs in
        let fits : q + 3 ≤ length bs = omega arith in
        let wide : b.size ≤ stride = subst (λ y. b.size ≤ entry_length y) is (wide_enough newer (entry_length rest) b.size v2.0) in
        let head : drop 3 rest ≡ drop (q + 3) bs = ap (drop 3) is ∙ drop-drop 3 q bs in
        let all : entries_verdict closed (block_view known b) stride g.tag n (p + 3) (drop 3 rest) ≡ fine = subst (λ y. entries_verdict closed (block_view known b) (entry_length y) g.tag (entry_count y) (p + 3) (drop 3 rest) ≡ fine) is v3.1 in
        let here = entries_laid closed version stride g.tag b n (p + 3) (q + 3) (drop 3 rest) h.0.block wide head fits all in
        let ends : q + 3 + n * stride ≡ q + group_length (drop q bs) = omega arith in
        let q2 = q + group_length (drop q bs) in
        let inside : q2 ≤ length bs = subst (λ k. k ≤ length bs) ends here.0 in
        let next : drop (group_length rest) rest ≡ drop q2 bs = ap (λ y. drop (group_length y) y) is ∙ drop-drop (group_length (drop q bs)) q bs in
        let ih = groups_laid closed newer version gs (p + group_length rest) q2 (drop (group_length rest) rest) h.1 next inside v.1 in
        let size = asked 3 q fits in
        let behind : q + 3 ≡ q + length (take 3 (drop q bs)) = omega arith in
        let items = laid_on (q + 3) q2 (groups_end bs q2 gs) (entries_items known bs b.fields stride n (q + 3)) (groups_items known bs q2 gs) (subst (λ k. LaidOut bs (q + 3) k (entries_items known bs b.fields stride n (q + 3))) ends here.1) ih.1 in
        (ih.0, (omega arith, own_bytes 3 q fits, subst (λ k. LaidOut bs k (groups_end bs q2 gs) (entries_items known bs b.fields stride n (q + 3) ++ groups_items known bs q2 gs)) behind items))

    -- ---- a frame

    pub items_laid : (closed newer : Bool) (version : ℕ) (t : Template) → GoodTemplate known version t → 12 ≤ length bs →
        contents_verdict closed newer (view_of known t) (stated_root bs) 12 (drop 12 bs) ≡ fine → LaidOut bs 12 (length bs) (items_by known bs t)
    items_laid closed newer version t g twelve e =
        let given = stated_root bs in
        let v = view_of known t in
        let b2 = drop given (drop 12 bs) in
        let second : b2 ≡ drop (12 + given) bs = drop-drop given 12 bs in
        let v1 = told (length_fits newer given t.root.size) _ _ e in
        let v2 = told (leb given (length (drop 12 bs))) _ _ v1.1 in
        let v3 = both (block_verdict closed 12 v.root (drop 12 bs)) _ v2.1 in
        let v4 = both (groups_verdict closed newer v.groups (12 + given) b2) _ v3.1 in
        let there = leb-true given (length (drop 12 bs)) v2.0 in
        let long : length (drop 12 bs) ≡ length bs - 12 = length-drop 12 bs in
        let fits : 12 + given ≤ length bs = omega arith in
        let root = block_laid 12 given version t.root g.root (wide_enough newer given t.root.size v1.0) fits in
        let all = groups_laid closed newer version t.groups (12 + given) (12 + given) b2 g.groups second fits v4.0 in
        let q = groups_end bs (12 + given) t.groups in
        let last = parts_laid newer t.parts (12 + given + groups_length v.groups b2) q (drop (groups_length v.groups b2) b2) (behind_groups known bs t.groups (12 + given) b2 second) all.0 v4.1 in
        laid_on 12 (12 + given) (length bs) (block_items known bs 12 t.root.fields) (groups_items known bs (12 + given) t.groups ++ parts_items bs q t.parts) root
        (laid_on (12 + given) q (length bs) (groups_items known bs (12 + given) t.groups) (parts_items bs q t.parts) all.1 last)

module _ (known : Known) (exact : (s : List ℕ) → Bytes s → PassesExactlyAsWrittenOut known s) (s : List ℕ) (c : Checked known s) where
  pub walked_through : (closed : Bool) (bs : List ℕ) → verdict_when closed known s bs ≡ fine → WalkedThrough known s bs
  walked_through closed bs e =
      let d = dictionary_of s in
      let u = stated_version bs in
      let p = contents_passed closed known s bs e in
      let t = template_of_frame known exact s c bs p.1.0 in
      let w = template_of t.section.section in
      let newer = ltb d.version u in
      let passed : contents_verdict closed newer (view_of known (seen_template u w)) (stated_root bs) 12 (drop 12 bs) ≡ fine =
      subst (λ o. contents_by known closed newer o (stated_root bs) (drop 12 bs) ≡ fine) t.at_version p.1.1 in
      let items = items_by known bs (seen_template u w) in
      let good = good_template_at known d.version u w t.since t.good in
      let laid = items_laid bs known closed newer u (seen_template u w) good p.0 passed in
      record {
        items = items;
        walked = ap (items_in known (version_of s) u bs) t.found ∙ ap (λ v. bind v (λ _. Ok items)) t.geometry;
        laid_out = laid;
        made_up = made_up bs 0 (length bs) items (laid_before bs 0 12 (length bs) items (omega arith) laid);
        tells_all = items_told known bs u (seen_template u w) good ∙ (λ i. told_template (sym t.at_version i) (contents_read_by known (sym t.at_version i) (stated_root bs) (drop 12 bs)));
      }
