-- Two lawful libraries joined are lawful.
use Rattle.std.specs.Prelude.{◌≡◌, Some, None, Option}
use Rattle.types.specs.Kinds.{Kind, Lawful, Known, AllLawful, either, joined}

one_of : (left right : Option Kind) (P : Kind → Type 0) → ((k : Kind) → left ≡ Some k → P k) → ((k : Kind) → right ≡ Some k → P k) → (k : Kind) → either left right ≡ Some k → P k
one_of None right P p q k e = q k e
one_of (Some j) right P p q k e = p k e

pub joined_lawful : (left right : Known) → AllLawful left → AllLawful right → AllLawful (joined left right)
joined_lawful left right p q number argument k e = one_of (left number argument) (right number argument) Lawful (p number argument) (q number argument) k e
