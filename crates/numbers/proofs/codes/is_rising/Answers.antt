use Rattle.std.proofs.Common.{ltb, rules}
use Rattle.std.proofs.lemmas.Fn.{always_returns_same}
use borrow.Author.Tests.{tests}
use Rattle.wire.proofs.Values.{bytes_held}
use Rattle.numbers.proofs.Listing.{rising_answer}
use Rattle.numbers.proofs.codes.is_rising.Goals as goal

pub returns : goal.returns
returns c =
    let s = c.args.s.now in
    rising_answer s _ (bytes_held s c.type_inv.s) (c.is_sorted_by.ensures.cases (λ x y. ltb x y) (always_returns_same _ _ _ (λ a r q k. (search (rules, tests), search rules))))
