use Rattle.std.proofs.Common.{inl, rules}
use Rattle.lines.specs.Walks.{GivesGroup, group_at, groups_left}
use Rattle.places.proofs.Counting.{groups_few, counted}
use Rattle.places.proofs.blank.heads_length.Goals as goal

pub count-requires-clause-fits : goal.count-requires-clause-fits
count-requires-clause-fits c = let few = groups_few c.of.result.lines.rest.now in inl (search (rules, few))

pub overflow_mul-result : goal.overflow_mul-result
overflow_mul-result c = let all = counted GivesGroup 8 group_at (λ w. w.lines.rest.now) groups_left (λ w o w' e. e.0) c.count.result c.of.result c.count.ensures.ran in search (rules, all)

pub returns : goal.returns
returns c = let all = counted GivesGroup 8 group_at (λ w. w.lines.rest.now) groups_left (λ w o w' e. e.0) c.count.result c.of.result c.count.ensures.ran in search (rules, all)
