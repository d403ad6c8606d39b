-- What acceptance answers. Assumes nothing.
use Rattle.std.specs.Prelude.{◌≡◌, ℕ, List, Ok, Err, Result}
use Rattle.std.specs.Borrow.{Bor}
use Rattle.wire.specs.declared.refusal.Refusal.{Refusal}
use Rattle.schema.specs.Verdicts.{Verdict, fine}
use Rattle.frame.specs.declared.accepted.Frame.{Frame}

-- a frame is accepted exactly if no rule is broken, and holds the bytes and the dictionary that were passed; else the first broken rule is told
abbrev pub Accepts : Result Frame Refusal → Verdict → Bor (List ℕ) → Bor (List ℕ) → Type 0
Accepts (Ok f) verdict bytes dictionary = (verdict ≡ fine) × (f.bytes ≡ bytes) × (f.dictionary ≡ dictionary)
Accepts (Err e) verdict bytes dictionary = verdict ≡ Err e
