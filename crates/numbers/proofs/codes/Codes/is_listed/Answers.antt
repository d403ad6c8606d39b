use Rattle.std.proofs.Common.{eqb, sym, ◌∙◌, rules}
use Rattle.std.proofs.lemmas.Iterator.{YieldsList-from_slice}
use Rattle.std.proofs.lemmas.Iterator.Search.{any_from_yields_List}
use Rattle.numbers.proofs.Listing.{listed_any}
use Rattle.numbers.proofs.codes.Codes.is_listed.Goals as goal

pub returns-clause-value : goal.returns-clause-value
returns-clause-value c =
    any_from_yields_List (λ b. eqb b c.args.code) _ _ _ c.any.ensures.ran (YieldsList-from_slice c.args.self.list.now cc) (λ x b q k. search rules)
    ∙ sym (listed_any c.args.code c.args.self.list.now)
