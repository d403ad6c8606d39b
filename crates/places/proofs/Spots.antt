-- The places that are found in the bytes of a frame are those in the message whose frame it is.
use Rattle.std.proofs.Common.{◌≡◌, ℕ, ◌+◌, ◌*◌, ◌^◌, ◌<◌, false, cond, ltb, List, [], ◌∷◌, ◌++◌, map, length, get_or, drop, Ok, Err, Result, sym, refl, ap, ◌∙◌, ⊎_elim, append_assoc, arith, length-append}
use Rattle.std.proofs.lemmas.List.{drop-drop, drop_at}
use Rattle.std.proofs.lemmas.Bool.{cases_Bool}
use Rattle.std.proofs.lemmas.Bool.Decides.{eqb_tells}
use Rattle.wire.specs.declared.refusal.Refusal.{Refusal}
use Rattle.wire.specs.Refusals.{bind}
use Rattle.types.specs.Meanings.{Meaning}
use Rattle.types.specs.Kinds.{Known}
use Rattle.schema.specs.Structure.{Field, Group, Data, Template}
use Rattle.schema.specs.Seen.{seen_fields, seen_parts, block_length, seen_group, seen_template}
use Rattle.message.specs.Blocks.{block_bytes}
use Rattle.message.specs.Frames.{GroupView, Contents, group_bytes, groups_bytes, part_bytes, parts_bytes, contents_bytes, entry_count, content_length, part_length, Groups, Parts, Holds}
use Rattle.message.specs.Messages.{slot_of, group_view, data_view, view_of}
use Rattle.message.proofs.Blocks.{block_length as root_bytes_long}
use Rattle.message.proofs.Passing.{part_counted}
use Rattle.message.proofs.Making.{AllSized}
use Rattle.message.proofs.Views.{AllRoom, SoundView}
use Rattle.calls.specs.Changes.{lacking, FieldSpot, GroupSpot, field_in, group_in, part_in, field_of_entry, field_spot, group_spot, part_spot}
use Rattle.calls.proofs.Splits.{group_long, part_bytes_long}
use Rattle.places.specs.Places.{PlacedGroup, field_at, entry_field_at, group_span, group_at, behind_groups, part_at, first_group, field_place, group_place, part_place}
use Rattle.places.specs.Spots.{Counted, seen_field_spot, counted_group, counted_entries, counted_part, counted_content, PlacesAreSpots}

module _ (known : Known) where
  -- ---- fields

  field_here : (base tag : ℕ) (fs : List Field) → field_in base (map (slot_of known) fs) tag ≡ seen_field_spot known (field_at base fs tag)
  field_here base tag [] = refl
  field_here base tag (f ∷ fs) = ⊎_elim (λ a. rw a.0 refl) (λ a. rw a.0 (field_here base tag fs)) (eqb_tells f.tag tag)

  module _ (group entry tag : ℕ) where
    -- the field of an entry, by the group and the number of its entries
    abbrev by_count : Counted GroupView → Result FieldSpot Refusal
    by_count g = cond (ltb entry g.count) (field_in (g.place + 3 + entry * g.line.block.size) g.line.block.slots tag) (lacking group)

    in_message : (g : Result GroupSpot Refusal) → bind g (field_of_entry group entry tag) ≡ bind (counted_entries g) by_count
    in_message (Ok g) = refl
    in_message (Err e) = refl

    in_bytes : (g : Result PlacedGroup Refusal) → bind (counted_group known g) by_count ≡ seen_field_spot known (bind g (entry_field_at group entry tag))
    in_bytes (Ok g) =
        let all = field_here (g.place + 3 + entry * g.group.block.size) tag g.group.block.fields in
        ⊎_elim (λ a. rw a all) (λ a. rw a refl) (cases_Bool (ltb entry g.count))
    in_bytes (Err e) = refl

  module _ (u : ℕ) (bs : List ℕ) where
    -- ---- groups

    abbrev seen_groups : List Group → List GroupView
    seen_groups gs = map (group_view known) (map (seen_group u) gs)

    -- the bytes from p on begin with the groups, and then there are more
    abbrev GroupsAt : ℕ → List Group → List (List (List Meaning)) → List ℕ → Type 0
    GroupsAt p gs ess more = drop p bs ≡ groups_bytes (seen_groups gs) ess ++ more

    module _ (p : ℕ) (g : Group) (gs : List Group) (es : List (List Meaning)) (ess : List (List (List Meaning))) (more : List ℕ) (s : AllSized (seen_groups (g ∷ gs))) (k : Groups false (seen_groups (g ∷ gs)) (es ∷ ess)) (e : GroupsAt p (g ∷ gs) (es ∷ ess) more) where
      -- the first of the groups: the number of its entries, how long it is, and where the next one begins
      counted : entry_count (drop p bs) ≡ length es
      counted = ap (λ x. get_or x 2 0) e

      spanned : group_span u bs p g ≡ length (group_bytes (group_view known (seen_group u g)) es)
      spanned = ap (λ n. 3 + n * block_length u g.block) counted ∙ sym (group_long (group_view known (seen_group u g)) es s.0 k.1)

      next_group : GroupsAt (p + length (group_bytes (group_view known (seen_group u g)) es)) gs ess more
      next_group =
          let first = group_bytes (group_view known (seen_group u g)) es in
          sym (drop-drop (length first) p bs) ∙ ap (drop (length first)) (e ∙ append_assoc first (groups_bytes (seen_groups gs) ess) more) ∙ drop_at first (groups_bytes (seen_groups gs) ess ++ more) (length first) refl

    group_here : (p tag : ℕ) (gs : List Group) (ess : List (List (List Meaning))) (more : List ℕ) → AllSized (seen_groups gs) → Groups false (seen_groups gs) ess → GroupsAt p gs ess more → counted_entries (group_in p (seen_groups gs) ess tag) ≡ counted_group known (group_at u bs p gs tag)
    group_here p tag [] ess more s k e = refl
    group_here p tag (g ∷ gs) [] more s k e = absurd k
    group_here p tag (g ∷ gs) (es ∷ ess) more s k e =
        let n = counted p g gs es ess more s k e in
        let l = spanned p g gs es ess more s k e in
        let rest = group_here (p + length (group_bytes (group_view known (seen_group u g)) es)) tag gs ess more s.1 k.2 (next_group p g gs es ess more s k e) in
        ⊎_elim
        (λ a. rw a.0 (λ i. Ok (record { place = p; line = group_view known (seen_group u g); count = sym n i })))
        (λ a. rw a.0 (rest ∙ ap (λ x. counted_group known (group_at u bs (p + x) gs tag)) (sym l)))
        (eqb_tells g.tag tag)

    groups_end : (p : ℕ) (gs : List Group) (ess : List (List (List Meaning))) (more : List ℕ) → AllSized (seen_groups gs) → Groups false (seen_groups gs) ess → GroupsAt p gs ess more → (behind_groups u bs p gs ≡ p + length (groups_bytes (seen_groups gs) ess)) × (drop (behind_groups u bs p gs) bs ≡ more)
    groups_end p [] ess more s k e = (omega arith, e)
    groups_end p (g ∷ gs) [] more s k e = absurd k
    groups_end p (g ∷ gs) (es ∷ ess) more s k e =
        let first = group_bytes (group_view known (seen_group u g)) es in
        let others = groups_bytes (seen_groups gs) ess in
        let l = spanned p g gs es ess more s k e in
        let r = groups_end (p + length first) gs ess more s.1 k.2 (next_group p g gs es ess more s k e) in
        let both : p + length first + length others ≡ p + length (first ++ others) = let j = length-append first others in omega arith in
        (ap (λ x. behind_groups u bs (p + x) gs) l ∙ r.0 ∙ both, ap (λ x. drop (behind_groups u bs (p + x) gs) bs) l ∙ r.1)

    -- ---- data

    part_here : (p tag : ℕ) (ds : List Data) (xs : List (List ℕ)) → AllRoom (map data_view ds) → Parts (map data_view ds) xs → drop p bs ≡ parts_bytes (map data_view ds) xs → counted_content (part_in p (map data_view ds) xs tag) ≡ counted_part (part_at u bs p ds tag)
    part_here p tag [] xs s k e = refl
    part_here p tag (d ∷ ds) [] s k e = absurd k
    part_here p tag (d ∷ ds) (x ∷ xs) s k e =
        let first = part_bytes (data_view d) x in
        let others = parts_bytes (map data_view ds) xs in
        let room = s.0 in
        let few = k.0 in
        let small : length x < 256 ^ d.prefix = omega arith in
        let n : content_length d.prefix (drop p bs) ≡ length x = ap (content_length d.prefix) e ∙ part_counted d.prefix x others small in
        let l : part_length d.prefix (drop p bs) ≡ length first = ap (λ y. d.prefix + y) n ∙ sym (part_bytes_long (data_view d) x) in
        let next : drop (p + length first) bs ≡ others = sym (drop-drop (length first) p bs) ∙ ap (drop (length first)) e ∙ drop_at first others (length first) refl in
        let rest = part_here (p + length first) tag ds xs s.1 k.2 next in
        ⊎_elim
        (λ a. rw a.0 (λ i. Ok (record { place = p; line = data_view d; count = sym n i })))
        (λ a. rw a.0 (rest ∙ ap (λ y. counted_part (part_at u bs (p + y) ds tag)) (sym l)))
        (eqb_tells d.tag tag)

    -- ---- a frame

    module _ (t : Template) (c : Contents) (s : SoundView (view_of known (seen_template u t))) (k : Holds false (view_of known (seen_template u t)) c) (e : drop 12 bs ≡ contents_bytes (view_of known (seen_template u t)) c) where
      groups_start : GroupsAt (first_group u bs t) t.groups c.groups (parts_bytes (map data_view (seen_parts u t.parts)) c.parts)
      groups_start =
          let v = view_of known (seen_template u t) in
          sym (drop-drop v.root.size 12 bs) ∙ ap (drop v.root.size) e ∙ drop_at (block_bytes v.root c.root) _ _ (root_bytes_long v.root c.root s.root k.root.0)

      group_places : (tag : ℕ) → counted_entries (group_spot (view_of known (seen_template u t)) c tag) ≡ counted_group known (group_place u bs t tag)
      group_places tag = group_here (first_group u bs t) tag t.groups c.groups _ s.groups k.groups groups_start

      part_places : (tag : ℕ) → counted_content (part_spot (view_of known (seen_template u t)) c tag) ≡ counted_part (part_place u bs t tag)
      part_places tag =
          let v = view_of known (seen_template u t) in
          let r = groups_end (first_group u bs t) t.groups c.groups _ s.groups k.groups groups_start in
          ap (λ p. counted_content (part_in p v.parts c.parts tag)) (sym r.0) ∙ part_here (behind_groups u bs (first_group u bs t) t.groups) tag (seen_parts u t.parts) c.parts s.parts k.parts r.1

      field_places : (group entry tag : ℕ) → field_spot (view_of known (seen_template u t)) c group entry tag ≡ seen_field_spot known (field_place u bs t group entry tag)
      field_places group entry tag =
          let root = field_here 12 tag (seen_fields u t.root.fields) in
          let all = in_message group entry tag (group_spot (view_of known (seen_template u t)) c group) ∙ ap (λ g. bind g (by_count group entry tag)) (group_places group) ∙ in_bytes group entry tag (group_place u bs t group) in
          ⊎_elim
          (λ a. ⊎_elim (λ z. rw (a.0, z.0) root) (λ z. rw (a.0, z.0) refl) (eqb_tells entry 0))
          (λ a. rw a.0 all)
          (eqb_tells group 0)

-- bytes that hold what a message holds behind their header: their places are those in the message
pub places_are_spots : (known : Known) (u : ℕ) (bs : List ℕ) (t : Template) (c : Contents) → SoundView (view_of known (seen_template u t)) → Holds false (view_of known (seen_template u t)) c → drop 12 bs ≡ contents_bytes (view_of known (seen_template u t)) c → PlacesAreSpots known u bs t c
places_are_spots known u bs t c s k e = record { fields = field_places known u bs t c s k e; groups = group_places known u bs t c s k e; parts = part_places known u bs t c s k e }
