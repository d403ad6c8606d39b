-- What is said of two dictionaries. Assumes nothing.
use Rattle.std.specs.Prelude.{◌≡◌, ℕ, ◌⊎◌, List, Ok, Err}
use Rattle.schema.specs.Verdicts.{Verdict}
use Rattle.schema.specs.Reading.{dictionary_of}
use Rattle.schema.specs.Editions.{EarlierEdition}
use Rattle.editions.specs.declared.Outcome.{Outcome}
use Rattle.editions.specs.declared.Outcome.TheVariants as outcome

-- the first refusal, or else whether the one is an earlier edition of the other
abbrev pub Judged : Verdict → Verdict → List ℕ → List ℕ → Outcome → Type 0
Judged (Err e) w earlier later o = o ≡ outcome.FirstRefused e
Judged (Ok u) (Err e) earlier later o = o ≡ outcome.SecondRefused e
Judged (Ok u) (Ok w) earlier later o =
    ((o ≡ outcome.Earlier) × EarlierEdition (dictionary_of earlier) (dictionary_of later))
    ⊎ ((o ≡ outcome.NotEarlier) × (EarlierEdition (dictionary_of earlier) (dictionary_of later) → ⊥))
