use Rattle.std.proofs.Common.{◌%◌, length, ◌∙◌, rules}
use Rattle.std.proofs.lemmas.Bool.{ne_eqb}
use Rattle.std.proofs.lemmas.Iterator.{YieldsList-from_slice}
use Rattle.std.proofs.lemmas.Iterator.Search.{all_from_yields_List}
use Rattle.order.specs.Words.{is_nibble}
use Rattle.order.proofs.Pairs.{each_a_digit, no_digit_over}
use Rattle.order.proofs.words.is_hex.Goals as goal

pub returns-then-word-eq0 : goal.returns-then-word-eq0
returns-then-word-eq0 c =
    all_from_yields_List is_nibble _ _ _ c.all.ensures.ran (YieldsList-from_slice c.args.word.now cc) (λ x b q k. search rules)
    ∙ each_a_digit c.args.word.now c.if-word-eq0.true

pub returns-else-word-eq0 : goal.returns-else-word-eq0
returns-else-word-eq0 c =
    ne_eqb (length c.args.word.now % 2) 0 c.if-word-eq0.false ∙ no_digit_over c.args.word.now c.if-word-eq0.false
