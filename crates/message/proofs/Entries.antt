-- Each line reads something, in each entry that there is; an entry that is not there is not found.
use Rattle.std.proofs.Common.{◌≡◌, ℕ, zero, suc, ◌<◌, ◌≤◌, List, [], ◌∷◌, length, get_or, Some, refl, ⊎_elim, arith}
use Rattle.std.specs.List.{AllByRecursion}
use Rattle.std.proofs.ByRecursion.{All-weaker}
use Rattle.std.proofs.lemmas.Bool.{eq-eqb}
use Rattle.std.proofs.lemmas.Bool.Decides.{eqb_tells}
use Rattle.types.specs.Meanings.{Meaning}
use Rattle.schema.specs.Structure.{Field}
use Rattle.message.specs.Lookup.{not_found, of_field, lookup, meaning_at, in_entries}

-- the tag of a line, and what is read at it
abbrev pub ReadAt : {L X : Type 0} → (L → ℕ) → X → List L → List X → L → Type 0
ReadAt {X = X} tag_of d ls xs l = (x : X) × (lookup tag_of d ls xs (tag_of l) ≡ Some x)

-- at the tag of each line something is read
pub each_reads : {L X : Type 0} (tag_of : L → ℕ) (d : X) (ls : List L) (xs : List X) → AllByRecursion (ReadAt tag_of d ls xs) ls
each_reads tag_of d [] xs = tt
each_reads tag_of d (l ∷ ls) [] = (
  (d, rw (eq-eqb (tag_of l) (tag_of l) refl)),
  All-weaker (ReadAt tag_of d ls []) (ReadAt tag_of d (l ∷ ls) [])
      (λ k h. ⊎_elim (λ a. (d, rw a.0)) (λ a. (h.0, rw a.0 h.1)) (eqb_tells (tag_of l) (tag_of k)))
      ls (each_reads tag_of d ls []),
)
each_reads tag_of d (l ∷ ls) (x ∷ xs) = (
  (x, rw (eq-eqb (tag_of l) (tag_of l) refl)),
  All-weaker (ReadAt tag_of d ls xs) (ReadAt tag_of d (l ∷ ls) (x ∷ xs))
      (λ k h. ⊎_elim (λ a. (x, rw a.0)) (λ a. (h.0, rw a.0 h.1)) (eqb_tells (tag_of l) (tag_of k)))
      ls (each_reads tag_of d ls xs),
)

-- an entry that is there is read, and one that is not is not found
pub entry_there : (fs : List Field) (es : List (List Meaning)) (group entry tag : ℕ) → entry < length es → in_entries fs es group entry tag ≡ of_field (meaning_at fs (get_or es entry []) tag) tag
entry_there fs [] group entry tag l = absurd (omega arith)
entry_there fs (ms ∷ es) group zero tag l = refl
entry_there fs (ms ∷ es) group (suc entry) tag l = entry_there fs es group entry tag (omega arith)

pub entry_not_there : (fs : List Field) (es : List (List Meaning)) (group entry tag : ℕ) → length es ≤ entry → in_entries fs es group entry tag ≡ not_found group
entry_not_there fs [] group entry tag l = refl
entry_not_there fs (ms ∷ es) group zero tag l = absurd (omega arith)
entry_not_there fs (ms ∷ es) group (suc entry) tag l = entry_not_there fs es group entry tag (omega arith)
