use Rattle.std.proofs.Common.{◌≡◌, sym, ap, ◌∙◌, rules, tests}
use Rattle.std.proofs.lemmas.Iterator.{YieldsList-from_slice}
use Rattle.std.proofs.lemmas.Iterator.Search.{position_from_yields_List}
use Rattle.judging.proofs.Padded.{is_other, first_other, told_of, padding_told}
use Rattle.judging.proofs.block.check_padding.Goals as goal

pub returns-in-Some : goal.returns-in-Some
returns-in-Some c =
    let found : c.position.result ≡ first_other c.args.bytes.now = position_from_yields_List is_other _ _ _ c.position.ensures.ran (YieldsList-from_slice c.args.bytes.now cc) (λ x b q k. search (rules, tests)) in
    rw c.at.ensures (ap (told_of c.args.place) (sym c.in-Some.is ∙ found) ∙ padding_told c.args.place c.args.bytes.now)

pub returns-in-None : goal.returns-in-None
returns-in-None c =
    let found : c.position.result ≡ first_other c.args.bytes.now = position_from_yields_List is_other _ _ _ c.position.ensures.ran (YieldsList-from_slice c.args.bytes.now cc) (λ x b q k. search (rules, tests)) in
    ap (told_of c.args.place) (sym c.in-None.is ∙ found) ∙ padding_told c.args.place c.args.bytes.now
