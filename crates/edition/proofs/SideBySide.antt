-- The test of two lists goes on by the steps of two walks that have them left.
use Rattle.std.proofs.Common.{◌≡◌, ℕ, Bool, ◌&&◌, List, [], ◌∷◌, map, Some, None, Option, sym, ap, ◌∙◌, subst, ap₂}
use Rattle.std.specs.Iterator.{Yields, YieldsFirstBy}
use Rattle.schema.specs.Seen.{seen_template}
use Rattle.dictionary.specs.Walks.{Gives}
use Rattle.lines.specs.Walks.{GivesSeenTemplate, template_at, seen_templates_left}
use Rattle.lines.specs.declared.templates.SeenTemplates.{SeenTemplates}
use Rattle.dictionary.specs.declared.section.Section.{Section}
use Rattle.edition.specs.Same.{same_lists, GoesOnBy}

-- a walk over bytes gives the first of what is left
pub first : {W A X : Type 0} (takes : A → ℕ) (shown : A → X) (bytes : W → List ℕ) (left : W → List X) (w w' : W) (o : Option A) → Gives takes shown bytes left w o w' → YieldsFirstBy shown left w o w'
first takes shown bytes left w w' None e = e
first takes shown bytes left w w' (Some x) e = e.0

module _ {W U A B X : Type 0} (gives : W → Option A → W → Type 0) (others : U → Option B → U → Type 0) (says : A → B → Bool → Type 0) (start : W) (shown : A → X) (other : B → X) (left : W → List X) (right : U → List X) (same : X → X → Bool) where
  pub side_by_side :
      ((before : List A) (w w' : W) (o : Option A) → Yields gives start before w → gives w o w' → YieldsFirstBy shown left w o w')
      → ((u u' : U) (o : Option B) → others u o u' → YieldsFirstBy other right u o u')
      → ((a : A) (b : B) (r : Bool) → says a b r → r ≡ same (shown a) (other b))
      → GoesOnBy gives others says start (λ w u. same_lists same (left w) (right u))
  side_by_side g h s = record {
    both = λ before w w' u u' a b r y e k q. ap₂ (same_lists same) (g before w w' (Some a) y e) (h u u' (Some b) k) ∙ ap (λ t. t && same_lists same (left w') (right u')) (sym (s a b r q));
    more = λ before w w' u u' a y e k. ap₂ (same_lists same) (g before w w' (Some a) y e) (h u u' None k).0;
    fewer = λ before w w' u u' b y e k. ap₂ (same_lists same) (g before w w' None y e).0 (h u u' (Some b) k);
    none = λ before w w' u u' y e k. ap₂ (same_lists same) (g before w w' None y e).0 (h u u' None k).0;
  }

-- the same, where a function is taken of each
pub first_by : {W A X Y : Type 0} (f : X → Y) (takes : A → ℕ) (shown : A → X) (bytes : W → List ℕ) (left : W → List X) (w w' : W) (o : Option A) → Gives takes shown bytes left w o w' → YieldsFirstBy (λ x. f (shown x)) (λ v. map f (left v)) w o w'
first_by f takes shown bytes left w w' None e = (ap (map f) e.0, ap (map f) e.1)
first_by f takes shown bytes left w w' (Some x) e = ap (map f) e.0

-- the test of two walks over bytes, of which the first says more of its steps
pub by_bytes :
    {W U A B X : Type 0} (gives : W → Option A → W → Type 0) (takes : A → ℕ) (shown : A → X) (bytes : W → List ℕ) (left : W → List X) (takes' : B → ℕ) (other : B → X) (bytes' : U → List ℕ) (right : U → List X) (says : A → B → Bool → Type 0) (start : W) (same : X → X → Bool)
    → ((w w' : W) (o : Option A) → gives w o w' → Gives takes shown bytes left w o w')
    → ((a : A) (b : B) (r : Bool) → says a b r → r ≡ same (shown a) (other b))
    → GoesOnBy gives (Gives takes' other bytes' right) says start (λ w u. same_lists same (left w) (right u))
by_bytes gives takes shown bytes left takes' other bytes' right says start same into s =
    side_by_side gives (Gives takes' other bytes' right) says start shown other left right same
    (λ before w w' o y e. first takes shown bytes left w w' o (into w w' o e))
    (λ u u' o e. first takes' other bytes' right u u' o e)
    s

-- the version of a walk over the templates that are seen at it stays
version_stays : (before : List Section) (w w' : SeenTemplates) → Yields GivesSeenTemplate w before w' → w'.version ≡ w.version
version_stays [] w w' e = ap (λ (x : SeenTemplates). x.version) (sym e)
version_stays (x ∷ xs) w w' (j, e, y) = version_stays xs j w' y ∙ e.1

-- so each of them is seen at the version that it began with
pub seen_first : (v : ℕ) (before : List Section) (start w w' : SeenTemplates) (o : Option Section) → start.version ≡ v → Yields GivesSeenTemplate start before w → GivesSeenTemplate w o w' → YieldsFirstBy (λ x. seen_template v (template_at x)) seen_templates_left w o w'
seen_first v before start w w' o b y e =
    subst (λ u. YieldsFirstBy (λ x. seen_template u (template_at x)) seen_templates_left w o w') (version_stays before start w y ∙ b)
    (first (λ _. 8) (λ x. seen_template w.version (template_at x)) (λ x. x.templates.sections.rest.now) seen_templates_left w w' o e.0)
