-- Tests that two parts of a dictionary say the same. Assumes nothing.
use Rattle.std.specs.Prelude.{◌≡◌, Bool, true, false, ◌&&◌, List, [], ◌∷◌, Some, None, Option, ◌==◌}
use Rattle.std.specs.Iterator.{Yields}
use Rattle.std.specs.Str.{bytes_eq}
use Rattle.schema.specs.Structure.{Field, Block, Group, Data, Template}

-- as many, and each the same as the one at its place
abbrev pub same_lists : {X : Type 0} → (X → X → Bool) → List X → List X → Bool
same_lists same [] [] = true
same_lists same [] (y ∷ ys) = false
same_lists same (x ∷ xs) [] = false
same_lists same (x ∷ xs) (y ∷ ys) = same x y && same_lists same xs ys

-- a test of two walks that goes on by what is said of their items, place by place: it is true where both end, and false where one ends before the other; the first walk began at `start`
pub record GoesOnBy {W U A B : Type 0} (gives : W → Option A → W → Type 0) (others : U → Option B → U → Type 0) (says : A → B → Bool → Type 0) (start : W) (test : W → U → Bool) : Type 0 where
  pub both : (before : List A) (w w' : W) (u u' : U) (a : A) (b : B) (r : Bool) → Yields gives start before w → gives w (Some a) w' → others u (Some b) u' → says a b r → test w u ≡ (r && test w' u')
  pub more : (before : List A) (w w' : W) (u u' : U) (a : A) → Yields gives start before w → gives w (Some a) w' → others u None u' → test w u ≡ false
  pub fewer : (before : List A) (w w' : W) (u u' : U) (b : B) → Yields gives start before w → gives w None w' → others u (Some b) u' → test w u ≡ false
  pub none : (before : List A) (w w' : W) (u u' : U) → Yields gives start before w → gives w None w' → others u None u' → test w u ≡ true

abbrev pub same_field : Field → Field → Bool
same_field f g = f.tag == g.tag && (f.offset == g.offset && (f.since == g.since && (f.type == g.type && (f.presence == g.presence && bytes_eq f.argument g.argument))))

abbrev pub same_block : Block → Block → Bool
same_block b c = b.size == c.size && same_lists same_field b.fields c.fields

abbrev pub same_group : Group → Group → Bool
same_group g h = g.tag == h.tag && same_block g.block h.block

abbrev pub same_data : Data → Data → Bool
same_data d e = d.prefix == e.prefix && (d.tag == e.tag && (d.since == e.since && d.longest == e.longest))

abbrev pub same_template : Template → Template → Bool
same_template t u = t.number == u.number && (t.since == u.since && (same_block t.root u.root && (same_lists same_group t.groups u.groups && same_lists same_data t.parts u.parts)))
