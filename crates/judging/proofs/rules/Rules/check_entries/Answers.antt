use Rattle.std.proofs.Common.{◌≡◌, ◌+◌, ◌-◌, length, sym, ap, ◌∙◌, arith, length-drop}
use Rattle.std.proofs.lemmas.Result.{err_from_is_err_and}
use Rattle.message.specs.Blocks.{fields_verdict}
use Rattle.message.specs.Frames.{entries_verdict}
use Rattle.judging.specs.Steps.{block_at, slots_from}
use Rattle.judging.proofs.Entries.{entries_short, entries_refused, entries_more}
use Rattle.judging.proofs.rules.Rules.check_entries.Goals as goal

pub returns-then-rest-stride : goal.returns-then-rest-stride
returns-then-rest-stride g c =
    let b = block_at (g.L.TypeLibrary.known c.args.self.now.library.now) c.args.self.now.version c.args.group.size c.args.group.lines.now in
    rw c.at.ensures (entries_short c.args.self.now.closed b c.args.stride c.args.group.tag (c.args.count - c.loop.counter) c.loop.at c.loop.rest.now _ (omega arith) (omega arith) c.loop.invariant.1)

pub returns-in_err-check_fields : goal.returns-in_err-check_fields
returns-in_err-check_fields g c =
    let known = g.L.TypeLibrary.known c.args.self.now.library.now in
    let b = block_at known c.args.self.now.version c.args.group.size c.args.group.lines.now in
    let p = err_from_is_err_and c.from_residual.result c.from_residual.ensures.1 in
    p.1 ∙ rw p.2 (entries_refused c.args.self.now.closed b c.args.stride c.args.group.tag (c.args.count - c.loop.counter) c.loop.at c.loop.rest.now _ _ (omega arith) (omega arith)
    (ap (λ n. fields_verdict c.args.self.now.closed c.loop.at 0 (slots_from known c.args.self.now.version c.args.group.lines.now) n c.loop.rest.now) (sym c.length_at-own.ensures) ∙ sym c.check_fields.ensures ∙ c.in_err-check_fields.was)
    c.loop.invariant.1)

pub loop-preserved : goal.loop-preserved
loop-preserved g c =
    let known = g.L.TypeLibrary.known c.args.self.now.library.now in
    let b = block_at known c.args.self.now.version c.args.group.size c.args.group.lines.now in
    let rest = c.beyond-rest.ensures in
    let long = ap length rest ∙ length-drop c.args.stride c.loop.rest.now in
    let stays = c.loop.invariant.0 in
    let one_less : c.args.count - (c.loop.counter + 1) ≡ c.args.count - c.loop.counter - 1 = omega arith in (
      omega (arith, long),
      ap (λ n. entries_verdict c.args.self.now.closed b c.args.stride c.args.group.tag n (c.loop.at + c.args.stride) c.beyond-rest.result.now) one_less
          ∙ ap (entries_verdict c.args.self.now.closed b c.args.stride c.args.group.tag (c.args.count - c.loop.counter - 1) (c.loop.at + c.args.stride)) rest
          ∙ entries_more c.args.self.now.closed b c.args.stride c.args.group.tag (c.args.count - c.loop.counter) c.loop.at c.loop.rest.now _ _ (omega arith) (omega arith)
          (ap (λ n. fields_verdict c.args.self.now.closed c.loop.at 0 (slots_from known c.args.self.now.version c.args.group.lines.now) n c.loop.rest.now) (sym c.length_at-own.ensures) ∙ sym c.check_fields.ensures ∙ c.in_ok-check_fields.was)
          c.loop.invariant.1,
    )

pub returns : goal.returns
returns g c =
    let b = block_at (g.L.TypeLibrary.known c.args.self.now.library.now) c.args.self.now.version c.args.group.size c.args.group.lines.now in
    let none : c.args.count - c.loop.counter ≡ 0 = omega arith in
    sym (ap (λ n. entries_verdict c.args.self.now.closed b c.args.stride c.args.group.tag n c.loop.at c.loop.rest.now) none) ∙ c.loop.invariant.1
