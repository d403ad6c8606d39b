use Rattle.std.proofs.Common.{true, sym, refl, ◌∙◌, subst}
use Rattle.std.proofs.lemmas.Result.{err_from_is_err_and}
use Rattle.schema.proofs.Exact.{passes_exactly}
use Rattle.message.specs.Messages.{frame_verdict}
use Rattle.message.proofs.FrameLaws.{frames_are_messages}
use Rattle.frame.specs.Accepting.{Accepts}
use Rattle.frame.proofs.accepting.accept.Goals as goal

pub returns-in_err-judge : goal.returns-in_err-judge
returns-in_err-judge g c =
    let known = g.L.TypeLibrary.known c.args.library.now in
    let laws = frames_are_messages known (g.met.L.TypeLibrary.lawful c.args.library.now) (passes_exactly known) in
    let p = err_from_is_err_and c.from_residual.result c.from_residual.ensures.1 in
    record {
      value = subst (λ r. Accepts r (frame_verdict known c.args.dictionary.now c.args.bytes.now) c.args.bytes c.args.dictionary) (sym p.1) (rw p.2 (sym c.judge.ensures ∙ c.in_err-judge.was));
      exact = λ checked old. laws.accepted_exactly true c.args.dictionary.now checked c.args.bytes.now c.seen.ensures old;
    }

pub returns : goal.returns
returns g c =
    let known = g.L.TypeLibrary.known c.args.library.now in
    let laws = frames_are_messages known (g.met.L.TypeLibrary.lawful c.args.library.now) (passes_exactly known) in
    record {
      value = (sym c.judge.ensures ∙ c.in_ok-judge.was, refl, refl);
      exact = λ checked old. laws.accepted_exactly true c.args.dictionary.now checked c.args.bytes.now c.seen.ensures old;
    }
