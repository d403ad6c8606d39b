use Rattle.types.specs.Meanings.{meaning}
use Rattle.types.specs.Answers.{pattern_of}
use Rattle.filling.proofs.Patterns.{written_no_place}
use Rattle.filling.proofs.working.Working.set_field.Goals as goal

pub put_pattern-requires-clause-no_place : goal.put_pattern-requires-clause-no_place
put_pattern-requires-clause-no_place g c number a r is = written_no_place (g.L.TypeLibrary.known c.args.self.now.library.now number a.now) (meaning c.args.value) r is

pub returns : goal.returns
returns g c =
    c.put_pattern.ensures (λ f. pattern_of (g.L.TypeLibrary.known c.args.self.now.library.now f.field.type f.field.argument) (meaning c.args.value)) (λ f a r e is. rw e at is)
