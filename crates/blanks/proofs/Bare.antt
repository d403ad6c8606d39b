-- Groups without entries and empty data, written one after the other, and blank contents as a whole.
use Rattle.std.proofs.Common.{◌≡◌, ℕ, ◌+◌, ◌-◌, ◌≤◌, List, [], ◌∷◌, ◌++◌, map, length, sym, refl, ap, ◌∙◌, append_assoc, arith, length-append}
use Rattle.types.specs.Kinds.{Known, AllLawful}
use Rattle.schema.specs.Structure.{Group, Template}
use Rattle.message.specs.Frames.{groups_bytes}
use Rattle.message.specs.Messages.{block_view, group_view, view_of}
use Rattle.moves.specs.Moves.{patched}
use Rattle.moves.proofs.Patches.{patched_on}
use Rattle.blanks.specs.Blanks.{Fitting, blank_block, blank_bytes, bare_group, bare_groups, bare_parts}
use Rattle.blanks.proofs.Blocks.{from_long}

-- ---- one after the other

-- what is left to write behind a piece gives what the whole gives; `far` is where the whole ends
pub record Onward (place : ℕ) (left bs all : List ℕ) (far : ℕ) : Type 0 where
  pub ends : place + length left ≡ far
  pub gives : patched place left bs ≡ all

pub onward : (place next far : ℕ) (x rest left bs out all : List ℕ) → left ≡ x ++ rest → place + length left ≡ far → far ≤ length bs → patched place left bs ≡ all → out ≡ patched place x bs → next ≡ place + length x → Onward next rest out all far
onward place next far x rest left bs out all cut ends fits inv o n =
    let long : length left ≡ length x + length rest = ap length cut ∙ length-append x rest in record {
      ends = omega arith;
      gives = patched_on place next x rest bs out (patched next rest out) o refl n (omega arith) ∙ ap (λ (t : List ℕ). patched place t bs) (sym cut) ∙ inv;
    }

-- ---- what they are in blank contents

pub groups_are : (known : Known) (gs : List Group) → groups_bytes (map (group_view known) gs) (map (λ _. []) (map (group_view known) gs)) ≡ bare_groups gs
groups_are known [] = refl
groups_are known (g ∷ gs) = ap (λ (t : List ℕ). bare_group g.block.size ++ t) (groups_are known gs)

-- ---- blank contents

module _ (known : Known) (lawful : AllLawful known) (t : Template) where
  pub contents_long : Fitting known 0 t.root.fields t.root.size → length (blank_bytes (view_of known t)) ≡ t.root.size + (length (bare_groups t.groups) + length (bare_parts t.parts))
  contents_long fit =
      let x : List ℕ = blank_block (block_view known t.root) in
      let y : List ℕ = groups_bytes (map (group_view known) t.groups) (map (λ _. []) (map (group_view known) t.groups)) in
      let z : List ℕ = bare_parts t.parts in
      let root : length x ≡ t.root.size - 0 = from_long known lawful 0 t.root.fields t.root.size fit in
      let same : length y ≡ length (bare_groups t.groups) = ap length (groups_are known t.groups) in
      let one : length (x ++ (y ++ z)) ≡ length x + length (y ++ z) = length-append x (y ++ z) in
      let two : length (y ++ z) ≡ length y + length z = length-append y z in
      omega (arith, root, same, one, two)

  -- a blank root, then the groups, then the data
  pub contents_put : (size end : ℕ) (bs b₁ b₂ b₃ : List ℕ) → Fitting known 0 t.root.fields t.root.size → 12 + length (blank_bytes (view_of known t)) ≤ length bs → size ≡ t.root.size → end ≡ 12 + size + length (bare_groups t.groups) → b₁ ≡ patched 12 (blank_block (block_view known t.root)) bs → b₂ ≡ patched (12 + size) (bare_groups t.groups) b₁ → b₃ ≡ patched end (bare_parts t.parts) b₂ → b₃ ≡ patched 12 (blank_bytes (view_of known t)) bs
  contents_put size end bs b₁ b₂ b₃ fit room s e e₁ e₂ e₃ =
      let x : List ℕ = blank_block (block_view known t.root) in
      let y : List ℕ = bare_groups t.groups in
      let z : List ℕ = bare_parts t.parts in
      let long = contents_long fit in
      let root : length x ≡ t.root.size - 0 = from_long known lawful 0 t.root.fields t.root.size fit in
      let both : length (x ++ y) ≡ length x + length y = length-append x y in
      let f₂ = patched_on 12 (12 + size) x y bs b₁ b₂ e₁ e₂ (omega (arith, root, s)) (omega (arith, root, long, room)) in
      let f₃ = patched_on 12 end (x ++ y) z bs b₂ b₃ f₂ e₃ (omega (arith, root, both, s, e)) (omega (arith, root, both, long, room)) in
      f₃ ∙ ap (λ (w : List ℕ). patched 12 w bs) (append_assoc x y z ∙ ap (λ (w : List ℕ). x ++ (w ++ z)) (sym (groups_are known t.groups)))
