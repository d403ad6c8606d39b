use Rattle.std.proofs.Common.{◌+◌, ◌*◌, ◌<◌, ap, ◌∙◌, ap₂, zero-mul, arith, rules}
use Rattle.std.proofs.lemmas.List.{get_or_past}
use Rattle.std.proofs.lemmas.Nat.{mul-le}
use Rattle.frame.proofs.held.group_length.Goals as goal

pub returns : goal.returns
returns c =
    let n = c.entry_count.result in
    let w = c.stated_at.result in
    let few : n < 256 = search rules in
    let short : w < 65536 = search rules in
    let most = mul-le n w 255 65535 (omega arith) (omega arith) in
    record {
      value = ap₂ (λ n w. 3 + n * w) c.entry_count.ensures c.stated_at.ensures;
      most = omega arith;
      none = λ h. ap (λ n. 3 + n * w) (c.entry_count.ensures ∙ get_or_past c.args.bytes.now 2 0 (omega arith)) ∙ ap (λ n. 3 + n) (zero-mul w);
    }
