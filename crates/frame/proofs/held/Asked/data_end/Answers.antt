use Rattle.std.proofs.Common.{◌≡◌, ◌+◌, ◌≤◌, leb, drop, sym, ap, ◌∙◌, arith}
use Rattle.std.proofs.lemmas.List.{at_drop_all}
use Rattle.std.proofs.lemmas.Bool.{cond-true, le-leb}
use Rattle.message.specs.Frames.{content_length, part_length}
use Rattle.frame.proofs.held.Asked.data_end.Goals as goal

pub returns : goal.returns
returns c =
    let bs = c.args.self.bytes.now in
    let p = c.args.place in
    let n = c.content_length.result in
    let newer = c.if-line-self.false in
    let old : c.args.line.since ≤ c.args.self.version = omega arith in
    let few = c.content_length.ensures.most in
    let is : n ≡ content_length 1 (drop p bs) = c.content_length.ensures.value ∙ ap (content_length 1) c.beyond.ensures in
    record {
      value = ap (λ m. p + (1 + m)) is ∙ sym (cond-true (leb c.args.line.since c.args.self.version) (p + part_length 1 (drop p bs)) p (le-leb c.args.line.since c.args.self.version old));
      most = omega arith;
      behind = λ h. let none : n ≡ 0 = is ∙ at_drop_all (content_length 1) bs p h in omega arith;
    }
