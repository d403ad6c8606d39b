use Rattle.std.proofs.Common.{◌≡◌, ◌<◌, ◌^◌, length, reverse, take, sym, ap, ◌∙◌, subst, arith}
use mir.Facts.{Fits-of_lt}
use Rattle.std.proofs.lemmas.List.{take_all, length_push, reverse-reverse}
use Rattle.std.proofs.lemmas.Iterator.Adapters.{YieldsList-from_rev_slice}
use Rattle.std.proofs.lemmas.Iterator.Consumers.{YieldsList-turn, YieldsList-end}
use Rattle.wire.specs.Numbers.{le_value, le_bytes, be_value}
use Rattle.wire.proofs.Values.{bytes_held, le_turn, le_fits, le_value_below, le_bytes_of_value}
use Rattle.wire.proofs.number.le_read.Goals as goal

pub overflow_mul-n : goal.overflow_mul-n
overflow_mul-n c =
    let known = bytes_held c.args.s.now c.type_inv.s in
    let t = YieldsList-turn (YieldsList-from_rev_slice c.args.s.now cc) c.loop-b.yielded _ c.loop-b.yielded_by _ _ c.in-Some.b c.in-Some.is c.next.ensures.steps in
    Fits-of_lt (omega (arith, le_fits c.args.s.now (length c.loop-b.yielded) c.loop-b.n c.in-Some.b.now known c.requires t c.loop-b.invariant))

pub overflow_add-n : goal.overflow_add-n
overflow_add-n c =
    let known = bytes_held c.args.s.now c.type_inv.s in
    let t = YieldsList-turn (YieldsList-from_rev_slice c.args.s.now cc) c.loop-b.yielded _ c.loop-b.yielded_by _ _ c.in-Some.b c.in-Some.is c.next.ensures.steps in
    Fits-of_lt (le_fits c.args.s.now (length c.loop-b.yielded) c.loop-b.n c.in-Some.b.now known c.requires t c.loop-b.invariant)

pub loop-b-preserved : goal.loop-b-preserved
loop-b-preserved c =
    let s = c.args.s.now in
    let t = YieldsList-turn (YieldsList-from_rev_slice s cc) c.loop-b.yielded _ c.loop-b.yielded_by _ _ c.in-Some.b c.in-Some.is c.next.ensures.steps in
    let turn = le_turn s (length c.loop-b.yielded) c.loop-b.n c.in-Some.b.now t c.loop-b.invariant in
    let long = length_push c.loop-b.yielded c.in-Some.b in
    turn ∙ ap (λ k. be_value (take k (reverse s))) (sym long)

pub returns : goal.returns
returns c =
    let s = c.args.s.now in
    let known = bytes_held s c.type_inv.s in
    let t = YieldsList-end (YieldsList-from_rev_slice s cc) c.loop-b.yielded _ c.loop-b.yielded_by _ _ c.in-None.is c.next.ensures.steps in
    let value : c.loop-b.n ≡ le_value s =
    c.loop-b.invariant ∙ ap be_value (take_all (length c.loop-b.yielded) (reverse s) (omega (arith, t.1))) ∙ ap le_value (reverse-reverse s) in
    record {
      value = value;
      bound = subst (λ n. n < 256 ^ length s) (sym value) (le_value_below s known);
      written = ap (λ n. le_bytes (length s) n) value ∙ le_bytes_of_value s known;
    }
