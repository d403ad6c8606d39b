-- The lines of a frame, one after another.
use Rattle.std.proofs.Common.{◌≡◌, ℕ, ◌<◌, Bool, List, [], ◌∷◌, length, Some, None, Option, sym, ap, ◌∙◌, arith}
use Rattle.std.specs.Option.{option_map}
use Rattle.types.specs.Kinds.{Known}
use Rattle.message.specs.Walks.{Item}
use Rattle.frame.specs.Spots.{first_of, rest_of}
use Rattle.listing.specs.declared.Line.{Line}
use Rattle.listing.specs.Lines.{Shown, shown_line, item_line}

-- where an item gives a line, fewer items are left behind it
pub fewer : (k : Known) (inside : Bool) (place : ℕ) (is js : List Item) (i : Option Item) (o : Option Line) (x : Line) → i ≡ first_of is → js ≡ rest_of is → option_map shown_line o ≡ option_map (item_line k inside place) i → o ≡ Some x → length js < length is
fewer k inside place [] js i o x e f h p =
    let q : ◌≡◌ {A = Option Shown} (Some (shown_line x)) None = ap (option_map shown_line) (sym p) ∙ h ∙ ap (option_map (item_line k inside place)) e in
    let z : ◌≡◌ {A = ℕ} 0 1 = cc in
    absurd (omega arith)
fewer k inside place (y ∷ is) js i o x e f h p =
    let n : length js ≡ length is = ap length f in
    omega (arith, n)
