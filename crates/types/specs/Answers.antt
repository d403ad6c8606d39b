-- What the four calls of a library answer, by the kind that it knows. Assumes nothing.
use Rattle.std.specs.Prelude.{◌≡◌, ℕ, List, Some, None, Ok, Err, Option, Result}
use Rattle.wire.specs.declared.refusal.Reason.{Reason}
use Rattle.wire.specs.declared.refusal.Reason.TheVariants as reason
use Rattle.wire.specs.declared.refusal.Refusal.{Refusal}
use Rattle.wire.specs.Refusals.{plain}
use Rattle.types.specs.declared.value.Value.{Value}
use Rattle.types.specs.declared.pattern.Pattern.{Pattern}
use Rattle.types.specs.Meanings.{Meaning, absent, meaning}
use Rattle.types.specs.Patterns.{pattern_bytes}
use Rattle.types.specs.Kinds.{Kind}

-- what an answer of the code says

abbrev pub meant_by : Option Value → Meaning
meant_by None = absent
meant_by (Some v) = meaning v

abbrev pub meant : Result (Option Value) Refusal → Result Meaning Refusal
meant (Ok v) = Ok (meant_by v)
meant (Err e) = Err e

abbrev pub patterned : Result Pattern Refusal → Result (List ℕ) Refusal
patterned (Ok p) = Ok (pattern_bytes p)
patterned (Err e) = Err e

-- what is there, or else a refusal that has no place yet
abbrev pub or_refused : {X : Type 0} → Reason → Option X → Result X Refusal
or_refused why None = Err (plain why)
or_refused why (Some x) = Ok x

-- the width, or that the type is unknown
abbrev pub width_of : Option Kind → Result ℕ Refusal
width_of None = Err (plain reason.UnknownType)
width_of (Some k) = Ok k.width

abbrev pub blank_of : Option Kind → Result (List ℕ) Refusal
blank_of None = Err (plain reason.UnknownType)
blank_of (Some k) = Ok k.blank

-- what the bytes mean; they are refused where the type is unknown, and then where they are no pattern of it
abbrev pub read_of : Option Kind → List ℕ → Result Meaning Refusal
read_of None s = Err (plain reason.UnknownType)
read_of (Some k) s = or_refused reason.NoPattern (k.means s)

-- the pattern that means m; refused where the type is unknown, and then where no pattern means m
abbrev pub pattern_of : Option Kind → Meaning → Result (List ℕ) Refusal
pattern_of None m = Err (plain reason.UnknownType)
pattern_of (Some k) m = or_refused reason.NoSuchValue (k.pattern m)

-- what is found by a number and an argument has the kind that is known of them, and what is refused is unknown
abbrev pub Finds : {X : Type 0} → (X → Kind) → Option Kind → Result X Refusal → Type 0
Finds kind known (Ok x) = known ≡ Some (kind x)
Finds kind known (Err e) = (known ≡ None) × (e ≡ plain reason.UnknownType)
