use Rattle.std.proofs.Common.{sym, ◌∙◌, rules}
use Rattle.order.proofs.Spelled.{number_turn, number_is}
use Rattle.order.proofs.words.number.Goals as goal

pub returns-in_err-checked_mul : goal.returns-in_err-checked_mul
returns-in_err-checked_mul c =
    let is = number_is c.args.word.now (sym c.is_empty.ensures ∙ c.if-is_empty.false) in
    let turn = number_turn c.loop-b.n c.args.word.now c.loop-b.b-index c.loop-b-test.true in
    search rules
