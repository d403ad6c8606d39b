use Rattle.std.proofs.Common.{true, Err, Result, sym, ap, ◌∙◌}
use Rattle.std.proofs.lemmas.Result.{err_from_is_err_and}
use Rattle.wire.specs.declared.refusal.Refusal.{Refusal}
use Rattle.wire.specs.Refusals.{bind}
use Rattle.schema.proofs.Exact.{passes_exactly}
use Rattle.message.specs.Lookup.{Reading}
use Rattle.message.specs.Spots.{Spot, spot_reading}
use Rattle.message.proofs.FrameLaws.{frames_are_messages}
use Rattle.message.proofs.Spotting.{reads_its_spots}
use Rattle.frame.specs.Holding.{shown_holding}
use Rattle.frame.specs.Readings.{shown_reading}
use Rattle.frame.proofs.accepted.Frame.read.Goals as goal

pub returns-in_err-held : goal.returns-in_err-held
returns-in_err-held g c =
    let known = g.L.TypeLibrary.known c.args.library.now in
    let s = c.args.self.now.dictionary.now in
    let bs = c.args.self.now.bytes.now in
    let laws = frames_are_messages known (g.met.L.TypeLibrary.lawful c.args.library.now) (passes_exactly known) in
    let refused : Refusal → Result Reading Refusal = λ e. Err e in
    let p = err_from_is_err_and c.from_residual.result c.from_residual.ensures.1 in
    let value =
    ap shown_reading p.1
    ∙ ap refused p.2
    ∙ ap (λ (v : Result Spot Refusal). bind v (spot_reading known bs)) (sym (ap shown_holding c.in_err-held.was) ∙ c.held.ensures)
    ∙ sym (reads_its_spots known s bs c.args.group c.args.entry c.args.tag) in
    record {
      value = value;
      message = λ checked passed. value ∙ laws.reads true s checked bs passed c.args.group c.args.entry c.args.tag;
      another = λ checked other passed same. value ∙ (laws.another true s checked other bs passed same).reads c.args.group c.args.entry c.args.tag;
    }

pub returns : goal.returns
returns g c =
    let known = g.L.TypeLibrary.known c.args.library.now in
    let s = c.args.self.now.dictionary.now in
    let bs = c.args.self.now.bytes.now in
    let laws = frames_are_messages known (g.met.L.TypeLibrary.lawful c.args.library.now) (passes_exactly known) in
    let value =
    c.reading.ensures
    ∙ ap (λ (v : Result Spot Refusal). bind v (spot_reading known bs)) (sym (ap shown_holding c.in_ok-held.was) ∙ c.held.ensures)
    ∙ sym (reads_its_spots known s bs c.args.group c.args.entry c.args.tag) in
    record {
      value = value;
      message = λ checked passed. value ∙ laws.reads true s checked bs passed c.args.group c.args.entry c.args.tag;
      another = λ checked other passed same. value ∙ (laws.another true s checked other bs passed same).reads c.args.group c.args.entry c.args.tag;
    }
