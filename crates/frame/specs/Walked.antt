-- What a walk over a frame has still to hand out. Assumes nothing.
use Rattle.std.specs.Prelude.{◌≡◌, ℕ, List, Ok, Err, Result}
use Rattle.std.specs.Borrow.{Bor}
use Rattle.wire.specs.declared.refusal.Refusal.{Refusal}
use Rattle.types.specs.Kinds.{Known}
use Rattle.message.specs.Walks.{Item}
use Rattle.frame.specs.declared.walking.Walk.{Walk}
use Rattle.frame.specs.Spots.{shown_spot, items_from}

-- the items that are left of a walk, by what its library knows
abbrev pub remaining : {L : Type 0} → Known → Walk L → List Item
remaining known w = items_from known w.bytes.now (shown_spot w.at)

-- those of a walk that begins, or why none does
abbrev pub all_remaining : {L : Type 0} → Known → Result (Walk L) Refusal → Result (List Item) Refusal
all_remaining known (Ok w) = Ok (remaining known w)
all_remaining known (Err e) = Err e

-- a walk that begins has the library and the frame's bytes that it was given
abbrev pub WalksOver : {L : Type 0} → Bor L → Bor (List ℕ) → Result (Walk L) Refusal → Type 0
WalksOver library bytes (Ok w) = (w.library ≡ library) × (w.bytes ≡ bytes)
WalksOver library bytes (Err e) = Unit {0}
