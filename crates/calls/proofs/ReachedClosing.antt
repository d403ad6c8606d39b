-- Contents in which no required field is absent, of a frame that is not too long, can be closed.
use Rattle.std.proofs.Common.{◌≡◌, ℕ, ◌+◌, ◌≤◌, true, List, [], ◌∷◌, length, refl}
use Rattle.std.proofs.lemmas.Bool.{le-leb}
use Rattle.types.specs.Meanings.{Meaning}
use Rattle.schema.specs.Verdicts.{fine}
use Rattle.message.specs.Blocks.{Slot, BlockView, Complete}
use Rattle.message.specs.Frames.{GroupView, View, Contents, group_bytes, Entries, Groups, Holds}
use Rattle.message.proofs.Verdicts.{joins, kept, joins_rule}
use Rattle.calls.specs.Changes.{needed, fields_there, entries_there, groups_there, closing_verdict}

fields_are_there : (base : ℕ) (fs : List Slot) (ms : List Meaning) → Complete fs ms → fields_there base fs ms ≡ fine
fields_are_there base [] ms k = refl
fields_are_there base (f ∷ fs) [] k = refl
fields_are_there base (f ∷ fs) (m ∷ ms) k = joins_rule _ _ _ k.0 (fields_are_there base fs ms k.1)

entries_are_there : (p : ℕ) (b : BlockView) (es : List (List Meaning)) → Entries true b es → entries_there p b es ≡ fine
entries_are_there p b [] k = refl
entries_are_there p b (ms ∷ es) k = joins _ _ (fields_are_there p b.slots ms (k.0.1 tt)) (entries_are_there (p + b.size) b es k.1)

groups_are_there : (p : ℕ) (gs : List GroupView) (ess : List (List (List Meaning))) → Groups true gs ess → groups_there p gs ess ≡ fine
groups_are_there p [] ess k = refl
groups_are_there p (g ∷ gs) [] k = refl
groups_are_there p (g ∷ gs) (es ∷ ess) k = joins _ _ (entries_are_there (p + 3) g.block es k.1) (groups_are_there (p + length (group_bytes g es)) gs ess k.2)

pub closes_fine : (v : View) (c : Contents) → Holds true v c → needed v c ≤ 16384 → closing_verdict v c ≡ fine
closes_fine v c h l =
    joins _ _ (fields_are_there 12 v.root.slots c.root (h.root.1 tt))
    (joins _ _ (groups_are_there (12 + v.root.size) v.groups c.groups h.groups) (kept _ _ (le-leb _ _ l)))
