use Rattle.std.proofs.Common.{◌≡◌, ◌+◌, true, leb, length, sym, ap, ◌∙◌, arith, length-drop, rules}
use Rattle.std.proofs.lemmas.Bool.{le-leb}
use Rattle.wire.specs.declared.refusal.Reason.TheVariants as reason
use Rattle.wire.specs.Refusals.{refusal}
use Rattle.schema.specs.Lines.{lines, there}
use Rattle.schema.specs.Reading.{fields_of}
use Rattle.schema.specs.Seen.{length_at}
use Rattle.message.specs.Blocks.{fields_verdict}
use Rattle.message.specs.Frames.{length_fits}
use Rattle.judging.specs.Steps.{slots_from, behind_root}
use Rattle.judging.proofs.PutTogether.{opened}
use Rattle.judging.proofs.rules.Rules.check_contents.Goals as goal

pub check_behind_root-requires : goal.check_behind_root-requires
check_behind_root-requires g c =
    let long = ap length c.beyond.ensures ∙ length-drop c.args.given c.args.rest.now in
    let small = c.requires.small in
    let room = c.requires.room in
    omega (arith, long)

pub returns : goal.returns
returns g c =
    let known = g.L.TypeLibrary.known c.args.self.now.library.now in
    let body = c.args.section.body.now in
    let own = length_at c.args.self.now.version c.args.section.size (fields_of (there (lines body))) in
    let fits : length_fits c.args.self.now.newer c.args.given own ≡ true =
    ap (length_fits c.args.self.now.newer c.args.given) (sym c.length_at-own.ensures) ∙ sym c.is_length.ensures ∙ search rules in
    let long : leb c.args.given (length c.args.rest.now) ≡ true = le-leb _ _ (omega arith) in
    c.check_behind_root.ensures
    ∙ ap (behind_root known c.args.self.now.closed c.args.self.now.newer c.args.self.now.version body (12 + c.args.given)) c.beyond.ensures
    ∙ sym (opened (length_fits c.args.self.now.newer c.args.given own) (leb c.args.given (length c.args.rest.now)) (refusal reason.BlockLength 4 0) (refusal reason.PastEnd 12 0)
    (fields_verdict c.args.self.now.closed 12 0 (slots_from known c.args.self.now.version body) own c.args.rest.now) _ _ fits long
    (ap (λ n. fields_verdict c.args.self.now.closed 12 0 (slots_from known c.args.self.now.version body) n c.args.rest.now) (sym c.length_at-own.ensures) ∙ sym c.check_fields.ensures ∙ c.in_ok-check_fields.was))
