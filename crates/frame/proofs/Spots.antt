-- The steps that lead to a spot, as the definition of one has them.
use Rattle.std.proofs.Common.{◌≡◌, ℕ, ◌+◌, ◌*◌, ◌^◌, ◌<◌, ◌≤◌, Bool, true, false, cond, eqb, ◌⊎◌, List, [], ◌∷◌, drop, Some, Option, Result, sym, refl, ap, ◌∙◌, inl, inr, arith, None, Err}
use Rattle.std.specs.Option.{option_map, ok_or}
use Rattle.std.specs.List.{find}
use Rattle.std.proofs.lemmas.Bool.{cond-false, ne_eqb, cases_lt}
use Rattle.wire.specs.declared.refusal.Refusal.{Refusal}
use Rattle.types.specs.Kinds.{Known}
use Rattle.schema.specs.Structure.{Field, Group, Data}
use Rattle.schema.specs.Finding.{PlacedSection, section_at}
use Rattle.schema.specs.Sections.{Section}
use Rattle.schema.specs.Geometry.{section_geometry}
use Rattle.schema.specs.Reading.{template_of, version_of, sections_of}
use Rattle.wire.specs.Refusals.{bind}
use Rattle.frame.specs.Templates.{passed, template_in}
use Rattle.frame.proofs.Placed.{after_geometry}
use Rattle.message.specs.Frames.{group_length}
use Rattle.message.specs.Messages.{stated_template, stated_version}
use Rattle.message.specs.Lookup.{groups_end}
use Rattle.message.specs.Spots.{Spot, no_spot, field_spot, part_spot, entry_spot, group_spot, template_spot, section_spot, frame_spot}
use Rattle.frame.specs.Holding.{spot_of_field, spot_of_part, part_end}

if_mapped : {X Y : Type 0} (h : X → Y) (b : Bool) (x : X) (o : Option X) → option_map h (cond b (Some x) o) ≡ cond b (Some (h x)) (option_map h o)
if_mapped h true x o = refl
if_mapped h false x o = refl

-- the first field with the tag, and where it lies
pub field_spotted : (u : ℕ) (bs : List ℕ) (base : ℕ) (fs : List Field) (tag : ℕ) → option_map (spot_of_field u base) (find (λ f. eqb f.tag tag) fs) ≡ field_spot u bs base fs tag
field_spotted u bs base [] tag = refl
field_spotted u bs base (f ∷ fs) tag =
    if_mapped (spot_of_field u base) (eqb f.tag tag) f (find (λ g. eqb g.tag tag) fs)
    ∙ ap (λ (o : Option Spot). cond (eqb f.tag tag) (Some (spot_of_field u base f)) o) (field_spotted u bs base fs tag)

err_same : {X E : Type 0} {e x : E} → ◌≡◌ {A = Result X E} (Err e) (Err x) → e ≡ x
err_same is = cc

-- what is refused where nothing is there
pub none_there : {X E : Type 0} (o : Option X) (e x : E) → ok_or o e ≡ Err x → (o ≡ None) × (e ≡ x)
none_there None e x is = (refl, err_same is)
none_there (Some y) e x is = absurd cc

-- by the template, if there is one
abbrev pub spot_by : ℕ → List ℕ → ℕ → ℕ → ℕ → Option Section → Result Spot Refusal
spot_by u bs group entry tag None = no_spot group
spot_by u bs group entry tag (Some t) = template_spot u bs (template_of t) group entry tag

section_spotted : (known : Known) (last u : ℕ) (bs : List ℕ) (o : Option PlacedSection) (group entry tag : ℕ) → section_spot known last u bs o group entry tag ≡ bind (passed known last o) (spot_by u bs group entry tag)
section_spotted known last u bs None group entry tag = refl
section_spotted known last u bs (Some t) group entry tag = after_geometry (section_geometry known last t.place t.section) t.section (spot_by u bs group entry tag)

-- the template of a frame has it where the frame has it
pub frame_spotted : (known : Known) (s bs : List ℕ) (group entry tag : ℕ) → frame_spot known s bs group entry tag ≡ bind (template_in known s bs) (spot_by (stated_version bs) bs group entry tag)
frame_spotted known s bs group entry tag = section_spotted known (version_of s) (stated_version bs) bs (section_at (stated_template bs) (stated_version bs) 7 (sections_of s)) group entry tag

-- ---- from group to group

pub group_spot_on : (u : ℕ) (bs : List ℕ) (p n : ℕ) (rest : List ℕ) (all gs : List Group) (g : Group) (group entry tag : ℕ) (r : Result Spot Refusal) → n ≡ group_length rest → rest ≡ drop p bs → (g.tag ≡ group → ⊥) → all ≡ g ∷ gs → group_spot u bs p all group entry tag ≡ r → group_spot u bs (p + n) gs group entry tag ≡ r
group_spot_on u bs p n rest all gs g group entry tag r long is other here whole =
    ap (λ m. group_spot u bs (p + m) gs group entry tag) (long ∙ ap group_length is)
    ∙ sym (cond-false (eqb g.tag group) (entry_spot u bs p g.block.fields group entry tag) (group_spot u bs (p + group_length (drop p bs)) gs group entry tag) (ne_eqb g.tag group other))
    ∙ ap (λ x. group_spot u bs p x group entry tag) (sym here)
    ∙ whole

pub groups_end_on : (bs : List ℕ) (p n : ℕ) (rest : List ℕ) (all gs : List Group) (g : Group) (r : ℕ) → n ≡ group_length rest → rest ≡ drop p bs → all ≡ g ∷ gs → groups_end bs p all ≡ r → groups_end bs (p + n) gs ≡ r
groups_end_on bs p n rest all gs g r long is here whole =
    ap (λ m. groups_end bs (p + m) gs) (long ∙ ap group_length is)
    ∙ ap (groups_end bs p) (sym here)
    ∙ whole

-- a place stays near the end of the bytes: behind it a group takes 3, while its line takes 8
pub group_near : (p n long left next whole : ℕ) → n ≤ 16711428 → (long ≤ p → n ≡ 3) → next + 8 ≤ left → left ≤ whole → 8 * p + 3 * left ≤ 8 * (long + 16777216) + 3 * whole → 8 * (p + n) + 3 * next ≤ 8 * (long + 16777216) + 3 * whole
group_near p n long left next whole most none takes within near = by (cases_lt p long)
  where
    by : (p < long) ⊎ (long ≤ p) → 8 * (p + n) + 3 * next ≤ 8 * (long + 16777216) + 3 * whole
    by (inl h) = omega arith
    by (inr h) = let three = none h in omega arith

-- ---- from data to data

pub part_spot_on : (u : ℕ) (bs : List ℕ) (p q : ℕ) (all ds : List Data) (d : Data) (tag : ℕ) (r : Option Spot) → q ≡ part_end u bs p d → (d.tag ≡ tag → ⊥) → all ≡ d ∷ ds → part_spot u bs p all tag ≡ r → part_spot u bs q ds tag ≡ r
part_spot_on u bs p q all ds d tag r is other here whole =
    ap (λ m. part_spot u bs m ds tag) is
    ∙ sym (cond-false (eqb d.tag tag) (Some (spot_of_part u bs p d)) (part_spot u bs (part_end u bs p d) ds tag) (ne_eqb d.tag tag other))
    ∙ ap (λ x. part_spot u bs p x tag) (sym here)
    ∙ whole

-- a place stays near the end of the bytes: behind it a data takes 1, while its line takes 9
pub part_near : (p q long left next whole : ℕ) → long < 2 ^ 63 → q ≤ p + 256 → (long ≤ p → q ≤ p + 1) → next + 9 ≤ left → left ≤ whole → 9 * p + left ≤ 9 * (2 ^ 63 + 2 ^ 62) + whole → 9 * q + next ≤ 9 * (2 ^ 63 + 2 ^ 62) + whole
part_near p q long left next whole short most none takes within near = by (cases_lt p long)
  where
    by : (p < long) ⊎ (long ≤ p) → 9 * q + next ≤ 9 * (2 ^ 63 + 2 ^ 62) + whole
    by (inl h) = omega arith
    by (inr h) = let one = none h in omega arith
