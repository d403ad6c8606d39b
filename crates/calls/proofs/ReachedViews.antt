-- A template of a well-formed dictionary, seen with the kinds of a lawful library: each field, group and data is found by its tag.
use Rattle.std.proofs.Common.{◌≡◌, ℕ, ◌^◌, ◌<◌, List, [], ◌∷◌, ◌++◌, map, sym, refl, ap, subst}
use Rattle.std.specs.List.{AllByRecursion}
use Rattle.types.specs.Kinds.{Known, AllLawful}
use Rattle.schema.specs.Structure.{Field, Group, Data, Template}
use Rattle.schema.specs.WellFormed.{Distinct, GoodField, GoodGroup, GoodData, GoodTemplate}
use Rattle.message.specs.Messages.{slot_of, group_view, data_view, view_of}
use Rattle.calls.proofs.ReachedFields.{LawfulKind, GoodSlot}
use Rattle.calls.proofs.ReachedGroups.{GoodGroupView}
use Rattle.calls.proofs.ReachedContents.{GoodView}

-- ---- tags

map_twice : {A B C : Type 0} (f : B → C) (g : A → B) (xs : List A) → map f (map g xs) ≡ map (λ x. f (g x)) xs
map_twice f g [] = refl
map_twice f g (x ∷ xs) = ap (λ r. f (g x) ∷ r) (map_twice f g xs)

all_front : {A : Type 0} (P : A → Type 0) (xs ys : List A) → AllByRecursion P (xs ++ ys) → AllByRecursion P xs
all_front P [] ys h = tt
all_front P (x ∷ xs) ys h = (h.0, all_front P xs ys h.1)

distinct_front : (ts us : List ℕ) → Distinct (ts ++ us) → Distinct ts
distinct_front [] us d = tt
distinct_front (t ∷ ts) us d = ((d.0.0, all_front (λ u. u ≡ t → ⊥) ts us d.0.1), distinct_front ts us d.1)

distinct_back : (ts us : List ℕ) → Distinct (ts ++ us) → Distinct us
distinct_back [] us d = d
distinct_back (t ∷ ts) us d = distinct_back ts us d.1

-- ---- the lines of a template

module _ (known : Known) (lawful : AllLawful known) where
  slots_good : (fs : List Field) → AllByRecursion (GoodField known) fs → AllByRecursion GoodSlot (map (slot_of known) fs)
  slots_good [] g = tt
  slots_good (f ∷ fs) g = ((subst LawfulKind (sym g.0.known_type) (lawful f.type f.argument g.0.kind g.0.known_type), g.0.tag_fits), slots_good fs g.1)

  slot_tags : (fs : List Field) → Distinct (map (λ f. f.tag) fs) → Distinct (map (λ f. f.tag) (map (slot_of known) fs))
  slot_tags fs d = subst Distinct (sym (map_twice (λ f. f.tag) (slot_of known) fs)) d

  module _ (version : ℕ) where
    groups_good : (gs : List Group) → AllByRecursion (GoodGroup known version) gs → AllByRecursion GoodGroupView (map (group_view known) gs)
    groups_good [] h = tt
    groups_good (g ∷ gs) h = ((h.0.tag_fits, slots_good g.block.fields h.0.block.fields, slot_tags g.block.fields h.0.tags), groups_good gs h.1)

    parts_good : (ds : List Data) → AllByRecursion GoodData ds → AllByRecursion (λ d. d.tag < 2 ^ 32) (map data_view ds)
    parts_good [] h = tt
    parts_good (d ∷ ds) h = (h.0.tag_fits, parts_good ds h.1)

    pub view_good : (t : Template) → GoodTemplate known version t → GoodView (view_of known t)
    view_good t g =
        let outer = distinct_back (map (λ f. f.tag) t.root.fields) (map (λ g. g.tag) t.groups ++ map (λ d. d.tag) t.parts) g.tags in
        record {
          root = slots_good t.root.fields g.root.fields;
          root_tags = slot_tags t.root.fields (distinct_front (map (λ f. f.tag) t.root.fields) (map (λ g. g.tag) t.groups ++ map (λ d. d.tag) t.parts) g.tags);
          groups = groups_good t.groups g.groups;
          group_tags = subst Distinct (sym (map_twice (λ g. g.tag) (group_view known) t.groups)) (distinct_front (map (λ g. g.tag) t.groups) (map (λ d. d.tag) t.parts) outer);
          parts = parts_good t.parts g.parts;
          part_tags = subst Distinct (sym (map_twice (λ d. d.tag) data_view t.parts)) (distinct_back (map (λ g. g.tag) t.groups) (map (λ d. d.tag) t.parts) outer);
        }
