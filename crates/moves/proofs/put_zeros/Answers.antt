use Rattle.std.proofs.Common.{◌≡◌, ℕ, ◌+◌, ◌-◌, length, take, drop, replicate, ap, ◌∙◌, arith, length-drop}
use lib.ListN.{length-replicate}
use Rattle.std.proofs.lemmas.List.{length-take-le}
use Rattle.moves.proofs.Patches.{part_put}
use Rattle.moves.proofs.put_zeros.Goals as goal

pub returns : goal.returns
returns c =
    let h = c.requires in
    let k = c.args.p + c.args.n - c.args.p in
    let bs = c.args.buffer.now in
    let same : k ≡ c.args.n = omega arith in
    let left : length (drop c.args.p bs) ≡ length bs - c.args.p = length-drop c.args.p bs in
    let long : length (take k (drop c.args.p bs)) ≡ c.args.n = length-take-le k (drop c.args.p bs) (omega (arith, left)) ∙ same in
    let count : length (replicate {A = ℕ} c.args.n 0) ≡ c.args.n = length-replicate c.args.n 0 in
    let filled = c.fill.ensures.after (λ y e. e) ∙ ap (λ n. replicate {A = ℕ} n 0) long in
    let r = part_put c.args.p k (replicate c.args.n 0) c.fill.new.self bs filled (omega (arith, count)) (omega arith) in
    record { value = r.0; len = r.1 }
