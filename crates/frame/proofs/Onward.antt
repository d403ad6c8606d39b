-- A walk, item by item.
use Rattle.std.proofs.Common.{◌≡◌, ℕ, zero, suc, ◌+◌, ◌-◌, ◌*◌, ◌<◌, ◌≤◌, true, false, cond, List, [], ◌∷◌, ◌++◌, map, length, drop, Some, None, sym, refl, ap, ◌∙◌, ap₂, append_assoc, mul-le-mul, arith}
use Rattle.std.proofs.lemmas.Bool.Decides.{nat_tests}
use Rattle.types.specs.Kinds.{Known}
use Rattle.schema.specs.Structure.{Field, Group, Data}
use Rattle.schema.specs.Lines.{lines, there}
use Rattle.schema.specs.Sections.{Section}
use Rattle.schema.specs.Reading.{fields_of, groups_of, parts_of, template_of}
use Rattle.schema.specs.Seen.{seen_fields, seen_group, seen_parts, seen_template}
use Rattle.schema.proofs.LinePieces.{lines_none}
use Rattle.message.specs.Frames.{entry_length, entry_count, group_length, content_length}
use Rattle.message.specs.Lookup.{groups_end}
use Rattle.message.specs.Messages.{stated_root}
use Rattle.message.specs.Walks.{Item, items_by, block_items, entries_items, groups_items, parts_items}
use Rattle.frame.specs.declared.walking.Step.{Step}
use Rattle.judging.specs.Steps.{seen_from}
use Rattle.frame.specs.Spots.{Spot, shown_spot, spot_at, items_beyond, items_left, roomy, items_from, first_of, rest_of, shown_item, Stepped, field_item, group_item, part_item, past_field, next_entry, no_entries, entered, past}
use Rattle.lines.specs.Held.{groups_in, parts_in}

-- ---- the room that a walk has

pub record Near (a : Spot) : Type 0 where
  pub groups : a.group_lines ≤ 65535
  pub parts : a.part_lines ≤ 65535
  pub place : a.place ≤ 17592186044416 - 33554432 * a.group_lines - 1024 * a.part_lines
  pub base : a.base ≤ 17592186044416
  pub stride : a.stride ≤ 65535
  pub entries : a.entries ≤ 255
  pub next : a.next ≤ 17592186044416 - 65536 * a.entries

pub near : (a : Spot) → roomy a ≡ true → Near a
near a e = record {
  groups = grind (arith, nat_tests);
  parts = grind (arith, nat_tests);
  place = grind (arith, nat_tests);
  base = grind (arith, nat_tests);
  stride = grind (arith, nat_tests);
  entries = grind (arith, nat_tests);
  next = grind (arith, nat_tests);
}

pub room : (a : Spot) → Near a → roomy a ≡ true
room a n = grind (arith, nat_tests)

-- ---- what is left, without an entry

entries_empty : (known : Known) (bs : List ℕ) (stride n p : ℕ) → entries_items known bs [] stride n p ≡ []
entries_empty known bs stride zero p = refl
entries_empty known bs stride (suc n) p = entries_empty known bs stride n (p + stride)

entries_step : (known : Known) (bs : List ℕ) (fs : List Field) (stride n p : ℕ) → 0 < n → entries_items known bs fs stride n p ≡ block_items known bs p fs ++ entries_items known bs fs stride (n - 1) (p + stride)
entries_step known bs fs stride zero p h = absurd (omega arith)
entries_step known bs fs stride (suc n) p h =
    let e : n ≡ suc n - 1 = omega arith in
    ap (λ m. block_items known bs p fs ++ entries_items known bs fs stride m (p + stride)) e

module _ (known : Known) (bs : List ℕ) where
  from_room : (a : Spot) → roomy a ≡ true → items_from known bs a ≡ items_left known bs a
  unfolding items_from
  from_room a e = ap (λ b. cond b (items_left known bs a) []) e

  -- an item is handed out
  pub stepped : (a b : Spot) (i : Item) (r : Step) → shown_item r.item ≡ Some i → shown_spot r.at ≡ b → items_from known bs a ≡ i ∷ items_from known bs b → Stepped known bs a r
  stepped a b i r e is whole = record { item = e ∙ sym (ap first_of whole); rest = ap (items_from known bs) is ∙ sym (ap rest_of whole) }

  -- the walk is over
  pub over : (a : Spot) (r : Step) → shown_item r.item ≡ None → shown_spot r.at ≡ a → items_from known bs a ≡ [] → Stepped known bs a r
  over a r e is none = record { item = e ∙ sym (ap first_of none); rest = ap (items_from known bs) is ∙ none ∙ sym (ap rest_of none) }

  -- as from a spot where the same is left
  pub as_from : (a b : Spot) (r : Step) → items_from known bs a ≡ items_from known bs b → Stepped known bs b r → Stepped known bs a r
  as_from a b r same s = record { item = s.item ∙ ap first_of (sym same); rest = s.rest ∙ ap rest_of (sym same) }

  pub field_on : (a : Spot) (f : Field) (fs : List Field) → roomy a ≡ true → a.left ≡ f ∷ fs → items_from known bs a ≡ field_item known bs a.base f ∷ items_from known bs (past_field fs a)
  field_on a f fs e here =
      from_room a e
      ∙ ap (λ gs. block_items known bs a.base gs ++ (entries_items known bs a.fields a.stride a.entries a.next ++ items_beyond known bs a.version a.place a.groups a.parts)) here
      ∙ ap (λ is. field_item known bs a.base f ∷ is) (sym (from_room (past_field fs a) e))

  pub room_next : (a : Spot) → roomy a ≡ true → 0 < a.entries → roomy (next_entry a) ≡ true
  room_next a e more =
      let n = near a e in
      let n0 = n.groups in
      let n1 = n.parts in
      let n2 = n.place in
      let n3 = n.stride in
      let n4 = n.entries in
      let n5 = n.next in
      room (next_entry a) (record { groups = n.groups; parts = n.parts; place = n.place; base = omega arith; stride = n.stride; entries = omega arith; next = omega arith })

  pub entry_on : (a : Spot) → roomy a ≡ true → a.left ≡ [] → 0 < a.entries → items_from known bs a ≡ items_from known bs (next_entry a)
  entry_on a e none more =
      let beyond = items_beyond known bs a.version a.place a.groups a.parts in
      let fs = a.fields in
      let later = entries_items known bs fs a.stride (a.entries - 1) (a.next + a.stride) in
      from_room a e
      ∙ ap₂ (λ gs is. block_items known bs a.base gs ++ (is ++ beyond)) none (entries_step known bs fs a.stride a.entries a.next more)
      ∙ append_assoc (block_items known bs a.next fs) later beyond
      ∙ sym (from_room (next_entry a) (room_next a e more))

  pub room_none : (a : Spot) → roomy a ≡ true → roomy (no_entries a) ≡ true
  room_none a e =
      let n = near a e in
      let n5 = n.next in
      room (no_entries a) (record { groups = n.groups; parts = n.parts; place = n.place; base = n.base; stride = n.stride; entries = omega arith; next = omega arith })

  pub entries_on : (a : Spot) → roomy a ≡ true → a.fields ≡ [] → items_from known bs a ≡ items_from known bs (no_entries a)
  entries_on a e none =
      let beyond = items_beyond known bs a.version a.place a.groups a.parts in
      let block = block_items known bs a.base a.left in
      from_room a e
      ∙ ap (λ fs. block ++ (entries_items known bs fs a.stride a.entries a.next ++ beyond)) none
      ∙ ap (λ is. block ++ (is ++ beyond)) (entries_empty known bs a.stride a.entries a.next)
      ∙ sym (from_room (no_entries a) (room_none a e))

  -- behind the last entry
  beyond_left : (a : Spot) → roomy a ≡ true → a.left ≡ [] → a.entries ≡ 0 → items_from known bs a ≡ items_beyond known bs a.version a.place a.groups a.parts
  beyond_left a e none zero' =
      let beyond = items_beyond known bs a.version a.place a.groups a.parts in
      from_room a e
      ∙ ap₂ (λ fs n. block_items known bs a.base fs ++ (entries_items known bs a.fields a.stride n a.next ++ beyond)) none zero'

  room_entered : (a : Spot) (fs : List Field) (gs : List Group) (lines : ℕ) → roomy a ≡ true → lines < a.group_lines → entry_length (drop a.place bs) ≤ 65535 → entry_count (drop a.place bs) ≤ 255 → roomy (entered bs fs gs lines a) ≡ true
  room_entered a fs gs lines e less narrow few =
      let n = near a e in
      let n0 = n.groups in
      let n1 = n.parts in
      let n2 = n.place in
      let most : entry_count (drop a.place bs) * entry_length (drop a.place bs) ≤ 16711425 = mul-le-mul few narrow in
      room (entered bs fs gs lines a) (record { groups = omega arith; parts = n.parts; place = omega arith; base = n.base; stride = narrow; entries = few; next = omega arith })

  pub group_on : (a : Spot) (g : Group) (gs : List Group) (lines : ℕ) → roomy a ≡ true → a.left ≡ [] → a.entries ≡ 0 → a.groups ≡ g ∷ gs → lines < a.group_lines → entry_length (drop a.place bs) ≤ 65535 → entry_count (drop a.place bs) ≤ 255 → items_from known bs a ≡ group_item bs a.place g.tag ∷ items_from known bs (entered bs (seen_fields a.version g.block.fields) gs lines a)
  group_on a g gs lines e none zero' here less narrow few =
      let p = a.place in
      let u = a.version in
      let q = p + group_length (drop p bs) in
      let fs = seen_fields u g.block.fields in
      let entries = entries_items known bs fs (entry_length (drop p bs)) (entry_count (drop p bs)) (p + 3) in
      let groups = groups_items known bs q (map (seen_group u) gs) in
      let parts = parts_items bs (groups_end bs q (map (seen_group u) gs)) a.parts in
      let inside : items_left known bs (entered bs fs gs lines a) ≡ entries ++ (groups ++ parts) =
      ap (λ hs. block_items known bs a.base hs ++ (entries ++ (groups ++ parts))) none in
      beyond_left a e none zero'
      ∙ ap (λ hs. items_beyond known bs u p hs a.parts) here
      ∙ ap (λ is. group_item bs p g.tag ∷ is) (append_assoc entries groups parts ∙ sym inside ∙ sym (from_room (entered bs fs gs lines a) (room_entered a fs gs lines e less narrow few)))

  -- behind the last group
  parts_left : (a : Spot) → roomy a ≡ true → a.left ≡ [] → a.entries ≡ 0 → a.groups ≡ [] → items_from known bs a ≡ parts_items bs a.place a.parts
  parts_left a e none zero' last = beyond_left a e none zero' ∙ ap (λ gs. items_beyond known bs a.version a.place gs a.parts) last

  room_part : (a : Spot) (ds : List Data) (lines : ℕ) → roomy a ≡ true → lines < a.part_lines → content_length 1 (drop a.place bs) ≤ 255 → roomy (past bs ds lines a) ≡ true
  room_part a ds lines e less short =
      let n = near a e in
      let n0 = n.groups in
      let n1 = n.parts in
      let n2 = n.place in
      room (past bs ds lines a) (record { groups = n.groups; parts = omega arith; place = omega arith; base = n.base; stride = n.stride; entries = n.entries; next = n.next })

  pub part_on : (a : Spot) (d : Data) (ds : List Data) (lines : ℕ) → d.prefix ≡ 1 → roomy a ≡ true → a.left ≡ [] → a.entries ≡ 0 → a.groups ≡ [] → a.parts ≡ d ∷ ds → lines < a.part_lines → content_length 1 (drop a.place bs) ≤ 255 → items_from known bs a ≡ part_item bs a.place d.tag ∷ items_from known bs (past bs ds lines a)
  part_on a d ds lines one e none zero' last here less short =
      parts_left a e none zero' last
      ∙ ap (parts_items bs a.place) (here ∙ ap (λ k. record { tag = d.tag; since = d.since; longest = d.longest; prefix = k } ∷ ds) one)
      ∙ ap (λ is. part_item bs a.place d.tag ∷ is) (sym (parts_left (past bs ds lines a) (room_part a ds lines e less short) none zero' last))

  pub end_on : (a : Spot) → roomy a ≡ true → a.left ≡ [] → a.entries ≡ 0 → a.groups ≡ [] → a.parts ≡ [] → items_from known bs a ≡ []
  end_on a e none zero' last here = parts_left a e none zero' last ∙ ap (parts_items bs a.place) here

  -- nothing is left where there is no room
  pub no_room : (a : Spot) → roomy a ≡ false → items_from known bs a ≡ []
  unfolding items_from
  no_room a e = ap (λ b. cond b (items_left known bs a) []) e

  -- before the first field
  room_start : (u p : ℕ) (body : List ℕ) → length body ≤ 65535 → p ≤ 65547 → roomy (spot_at u body p) ≡ true
  room_start u p body short near' = room (spot_at u body p) (record { groups = short; parts = short; place = omega arith; base = omega arith; stride = omega arith; entries = omega arith; next = omega arith })

  pub starts : (u p : ℕ) (t : Section) → length t.body ≤ 65535 → p ≤ 65547 → p ≡ 12 + stated_root bs → items_from known bs (spot_at u t.body p) ≡ items_by known bs (seen_template u (template_of t))
  starts u p t short near' is =
      from_room (spot_at u t.body p) (room_start u p t.body short near')
      ∙ ap (λ q. block_items known bs 12 (seen_from u t.body) ++ items_beyond known bs u q (groups_in t.body) (seen_parts u (parts_in t.body))) is

  -- without lines
  pub starts_empty : (u p : ℕ) (body : List ℕ) → body ≡ [] → p ≤ 65547 → items_from known bs (spot_at u body p) ≡ []
  starts_empty u p body none near' =
      let none' : lines body ≡ [] = ap lines none ∙ lines_none in
      let long : length body ≡ 0 = ap length none in
      from_room (spot_at u body p) (room_start u p body (omega arith) near')
      ∙ ap (λ ls. block_items known bs 12 (seen_fields u (fields_of (there ls))) ++ items_beyond known bs u p (groups_of (there ls)) (seen_parts u (parts_of (there ls)))) none'
