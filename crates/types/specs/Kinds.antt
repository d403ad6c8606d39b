-- What a library fixes for a type, and what it owes. Assumes nothing.
use Rattle.std.specs.Prelude.{◌≡◌, ℕ, ◌≤◌, List, length, Some, None, Option}
use Rattle.wire.specs.Bytes.{Bytes}
use Rattle.types.specs.Meanings.{Meaning, absent, Sayable}

-- A kind is all that a library says of one type: the width of its patterns, what bytes mean, the pattern of a meaning, the blank pattern, and what the blank means.
pub record Kind : Type 0 where
  pub width : ℕ
  pub means : List ℕ → Option Meaning
  pub pattern : Meaning → Option (List ℕ)
  pub blank : List ℕ
  pub blank_means : Meaning

-- A kind is lawful: patterns are byte strings of its width, 1 to 20;
-- bytes mean something exactly if they are the pattern of what they mean, so that no two patterns mean the same;
-- the blank is a pattern, and a pattern that means absent is the blank;
-- what has a pattern is absent or a value that the code can hold.
pub record Lawful (k : Kind) : Type 0 where
  pub least : 1 ≤ k.width
  pub most : k.width ≤ 20
  pub long : (m : Meaning) (s : List ℕ) → k.pattern m ≡ Some s → length s ≡ k.width
  pub bytes : (m : Meaning) (s : List ℕ) → k.pattern m ≡ Some s → Bytes s
  pub read_back : (m : Meaning) (s : List ℕ) → k.pattern m ≡ Some s → k.means s ≡ Some m
  pub written_back : (s : List ℕ) (m : Meaning) → Bytes s → k.means s ≡ Some m → k.pattern m ≡ Some s
  pub blank_is : k.pattern k.blank_means ≡ Some k.blank
  pub absent_is : (s : List ℕ) → k.pattern absent ≡ Some s → s ≡ k.blank
  pub sayable : (m : Meaning) (s : List ℕ) → k.pattern m ≡ Some s → Sayable m

-- what a library knows: the kind of each type, by number and argument
abbrev pub Known : Type 0
Known = ℕ → List ℕ → Option Kind

-- each kind that a library knows is lawful
abbrev pub AllLawful : Known → Type 0
AllLawful known = (number : ℕ) (argument : List ℕ) (k : Kind) → known number argument ≡ Some k → Lawful k

-- the left one of two libraries answers for each type that it knows, the right one for the rest
abbrev pub either : Option Kind → Option Kind → Option Kind
either None right = right
either (Some k) right = Some k

abbrev pub joined : Known → Known → Known
joined left right number argument = either (left number argument) (right number argument)
