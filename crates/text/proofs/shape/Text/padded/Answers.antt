use Rattle.std.proofs.Common.{◌≤◌, ◌++◌, length, take, drop, ap, ◌∙◌, arith}
use Rattle.std.proofs.lemmas.List.{length-take}
use Rattle.text.specs.Texts.{zeros}
use Rattle.text.proofs.Runs.{padded_is}
use Rattle.text.proofs.shape.Text.padded.Goals as goal

pub returns : goal.returns
returns c =
    let w = c.args.self.width in
    let s = c.args.characters.now in
    let short : length (take w (c.copy_from_slice.new.self ++ drop (length s) (zeros 20))) ≤ 20 = simp length-take (omega arith) in
    c.of.ensures.whole short ∙ ap (λ x. take w (x ++ drop (length s) (zeros 20))) c.copy_from_slice.ensures.after ∙ padded_is 20 w s c.requires (omega arith)
