use Rattle.std.proofs.Common.{◌∙◌, length}
use Rattle.std.specs.Option.{unwrap_or}
use Rattle.order.proofs.Spelled.{place_found}
use Rattle.order.proofs.words.place_of.Goals as goal

pub returns-clause-value : goal.returns-clause-value
returns-clause-value c =
    c.unwrap_or.ensures ∙ (λ i. unwrap_or (c.first_place.ensures i) (length c.args.bytes.now)) ∙ place_found c.args.sought c.args.bytes.now
