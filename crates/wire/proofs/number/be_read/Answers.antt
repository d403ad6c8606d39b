use Rattle.std.proofs.Common.{◌≡◌, ◌^◌, ◌<◌, length, sym, ap, ◌∙◌, subst, arith}
use mir.Facts.{Fits-of_lt}
use Rattle.std.proofs.lemmas.List.{take_all}
use Rattle.wire.specs.Numbers.{be_value, be_bytes}
use Rattle.wire.proofs.Values.{bytes_held, be_turn, be_fits, be_value_below, be_bytes_of_value}
use Rattle.wire.proofs.number.be_read.Goals as goal

pub overflow_mul-n : goal.overflow_mul-n
overflow_mul-n c =
    let known = bytes_held c.args.s.now c.type_inv.s in
    Fits-of_lt (omega (arith, be_fits c.args.s.now c.loop-b.b-index c.loop-b.n 0 known c.requires c.loop-b-test.true c.loop-b.invariant))

pub overflow_add-n : goal.overflow_add-n
overflow_add-n c =
    let known = bytes_held c.args.s.now c.type_inv.s in
    Fits-of_lt (be_fits c.args.s.now c.loop-b.b-index c.loop-b.n 0 known c.requires c.loop-b-test.true c.loop-b.invariant)

pub loop-b-preserved : goal.loop-b-preserved
loop-b-preserved c = be_turn c.args.s.now c.loop-b.b-index c.loop-b.n 0 c.loop-b-test.true c.loop-b.invariant

pub returns : goal.returns
returns c =
    let s = c.args.s.now in
    let known = bytes_held s c.type_inv.s in
    let value : c.loop-b.n ≡ be_value s =
    c.loop-b.invariant ∙ ap be_value (take_all c.loop-b.b-index s (omega arith)) in
    record {
      value = value;
      bound = subst (λ n. n < 256 ^ length s) (sym value) (be_value_below s known);
      written = ap (λ n. be_bytes (length s) n) value ∙ be_bytes_of_value s known;
    }
