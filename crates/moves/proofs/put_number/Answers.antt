use Rattle.std.proofs.Common.{◌≡◌, ◌+◌, ◌-◌, length, take, drop, refl, ap, ◌∙◌, arith, length-drop}
use Rattle.std.proofs.lemmas.List.{length-take-le}
use Rattle.wire.specs.Numbers.{le_bytes}
use Rattle.moves.proofs.Patches.{part_put}
use Rattle.moves.proofs.put_number.Goals as goal

pub returns : goal.returns
returns c =
    let h = c.requires in
    let k = c.args.p + 2 - c.args.p in
    let bs = c.args.buffer.now in
    let same : k ≡ 2 = omega arith in
    let left : length (drop c.args.p bs) ≡ length bs - c.args.p = length-drop c.args.p bs in
    let long : length (take k (drop c.args.p bs)) ≡ 2 = length-take-le k (drop c.args.p bs) (omega (arith, left)) ∙ same in
    let count : length (le_bytes 2 c.args.n) ≡ 2 = refl in
    let written = c.le_put.ensures.value ∙ ap (λ w. le_bytes w c.args.n) long in
    let r = part_put c.args.p k (le_bytes 2 c.args.n) c.le_put.new.out bs written (omega (arith, count)) (omega arith) in
    record { value = r.0; len = r.1 }
