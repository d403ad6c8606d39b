use Rattle.std.proofs.Common.{inl, rules}
use Rattle.lines.specs.Walks.{GivesSeenPart, data_at, seen_parts_left}
use Rattle.places.proofs.Counting.{parts_few, counted, prefixes_counted}
use Rattle.places.proofs.blank.prefixes_length.Goals as goal

pub count-requires-clause-fits : goal.count-requires-clause-fits
count-requires-clause-fits c = let few = parts_few c.of.result.version c.of.result.parts.lines.rest.now in inl (search (rules, few))

pub returns : goal.returns
returns c =
    let all = counted GivesSeenPart 9 data_at (λ w. w.parts.lines.rest.now) seen_parts_left (λ w o w' e. e.0) c.count.result c.of.result c.count.ensures.ran in
    let sum = prefixes_counted c.count.result c.of.result c.count.ensures.ran in
    search (rules, all, sum)
