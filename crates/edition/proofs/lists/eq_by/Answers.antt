use Rattle.std.proofs.Common.{sym, ◌∙◌, subst, rules}
use Rattle.std.specs.Iterator.{Yields}
use Rattle.edition.proofs.lists.eq_by.Goals as goal

pub returns-then-not-same : goal.returns-then-not-same
returns-then-not-same g c =
    let given = subst (λ s. Yields g.I.Iterator.next_gives s c.loop-a.yielded c.loop-a.a-iterator) c.into_iter-a-iterator.ensures.into_iter_gives c.loop-a.yielded_by in
    λ test law. sym (law.both c.loop-a.yielded _ _ _ _ _ _ _ given c.in-Some.ensures.steps c.in-Some-next.ensures.steps c.if-not-same.ensures) ∙ c.loop-a.invariant.1 test law

pub loop-a-preserved : goal.loop-a-preserved
loop-a-preserved g c =
    let given = subst (λ s. Yields g.I.Iterator.next_gives s c.loop-a.yielded c.loop-a.a-iterator) c.into_iter-a-iterator.ensures.into_iter_gives c.loop-a.yielded_by in
    (search rules, λ test law. sym (law.both c.loop-a.yielded _ _ _ _ _ _ _ given c.in-Some.ensures.steps c.in-Some-next.ensures.steps c.if-not-same.ensures) ∙ c.loop-a.invariant.1 test law)
