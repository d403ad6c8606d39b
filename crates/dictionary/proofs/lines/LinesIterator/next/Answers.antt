use Rattle.std.proofs.Common.{◌∙◌, sym}
use Rattle.dictionary.proofs.Cutting.{no_bytes}
use Rattle.dictionary.proofs.lines.LinesIterator.next.Goals as goal

pub returns-then-is_empty-clause-steps : goal.returns-then-is_empty-clause-steps
returns-then-is_empty-clause-steps c = no_bytes c.args.self.now.rest.now (sym c.is_empty.ensures ∙ c.if-is_empty.true)
