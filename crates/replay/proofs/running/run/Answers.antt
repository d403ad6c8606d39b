use Rattle.std.proofs.Common.{◌<◌, ◌≤◌, length, arith}
use Rattle.replay.specs.Shown.{made_calls}
use Rattle.replay.proofs.Going.{goes_on, form_at_last, buffer_at_last, answers_at_last, keeps_the_law, as_many, at_made}
use Rattle.replay.proofs.running.run.Goals as goal

pub loop-i-preserved : goal.loop-i-preserved
loop-i-preserved g c =
    let n = length c.args.answers.now in
    let calls = c.args.calls.now in
    let i = c.loop-i.i in
    let end = c.min-i-end.ensures in
    let many = as_many n calls in
    let long : i < n = omega (arith, end, c.loop-i-test.true) in
    let within : i < length calls = omega (arith, end, c.loop-i-test.true) in
    let more : i < length (made_calls n calls) = omega (arith, many, end, c.loop-i-test.true) in
    let answered : i < length c.loop-i.answers = omega (arith, long, c.loop-i.auto.answers) in
    goes_on _ _ _ _ _ _ i c.loop-i.held c.loop-i.buffer c.loop-i.answers _ c.turn-next.result.0 c.turn-next.result.1 c.turn-next.new.buffer more answered (at_made n calls i _ long within) c.turn-next.ensures.made c.turn-next.ensures.sayable c.loop-i.invariant

pub returns : goal.returns
returns g c =
    let n = length c.args.answers.now in
    let many = as_many n c.args.calls.now in
    let all : length (made_calls n c.args.calls.now) ≤ c.loop-i.i = omega (arith, many, c.min-i-end.ensures, c.loop-i-test.false) in
    record {
      form = form_at_last _ _ _ _ _ _ c.loop-i.i c.loop-i.held c.loop-i.buffer c.loop-i.answers c.loop-i.invariant all;
      buffer = buffer_at_last _ _ _ _ _ _ c.loop-i.i c.loop-i.held c.loop-i.buffer c.loop-i.answers c.loop-i.invariant all;
      answers = answers_at_last _ _ _ _ _ _ c.loop-i.i c.loop-i.held c.loop-i.buffer c.loop-i.answers c.loop-i.invariant all;
      law = λ checked none. keeps_the_law _ _ _ _ _ _ c.loop-i.i c.loop-i.held c.loop-i.buffer c.loop-i.answers c.loop-i.invariant all (g.met.L.TypeLibrary.lawful c.args.library.now) c.seen.ensures checked;
    }
