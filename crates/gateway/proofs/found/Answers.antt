use Rattle.std.proofs.Common.{ℕ, List, Err, Result, ap, ◌∙◌, ap₂, Bor}
use Rattle.std.proofs.lemmas.Result.{err_from_is_err_and}
use Rattle.wire.specs.declared.refusal.Refusal.{Refusal}
use Rattle.base.specs.Known.{base_kinds}
use Rattle.message.specs.Messages.{frame_verdict}
use Rattle.message.specs.Lookup.{frame_reading}
use Rattle.message.specs.Spots.{frame_spot}
use Rattle.frame.specs.Readings.{shown}
use Rattle.frame.specs.Spotting.{spots}
use Rattle.gateway.specs.declared.Finding.{Finding}
use Rattle.gateway.proofs.Refused.{read_refused, spot_refused}
use Rattle.gateway.proofs.found.Goals as goal

pub returns-in_err-reading : goal.returns-in_err-reading
returns-in_err-reading c =
    let s = c.args.dictionary.now in
    let bs = c.args.bytes.now in
    let group = c.args.group in
    let entry = c.args.entry in
    let tag = c.args.tag in
    let refused : Refusal → Result Finding Refusal = λ e. Err e in
    let p = err_from_is_err_and c.from_residual-in_err-reading.result c.from_residual-in_err-reading.ensures.1 in
    let taken = c.in_ok-frame.ensures.value in
    let reads = ap₂ (λ (d b : Bor (List ℕ)). frame_reading base_kinds d.now b.now group entry tag) taken.2 taken.1 in
    p.1
    ∙ ap refused p.2
    ∙ read_refused base_kinds (frame_verdict base_kinds s bs) (frame_reading base_kinds s bs group entry tag) (frame_spot base_kinds s bs group entry tag) c.in_err-reading.field-0.0 taken.0 (c.in_err-reading.ensures.value ∙ reads)

pub returns-in_err-spot : goal.returns-in_err-spot
returns-in_err-spot c =
    let s = c.args.dictionary.now in
    let bs = c.args.bytes.now in
    let group = c.args.group in
    let entry = c.args.entry in
    let tag = c.args.tag in
    let refused : Refusal → Result Finding Refusal = λ e. Err e in
    let p = err_from_is_err_and c.from_residual-in_err-spot.result c.from_residual-in_err-spot.ensures.1 in
    let taken = c.in_ok-frame.ensures.value in
    let reads = ap₂ (λ (d b : Bor (List ℕ)). frame_reading base_kinds d.now b.now group entry tag) taken.2 taken.1 in
    let lies = ap₂ (λ (d b : Bor (List ℕ)). spots base_kinds (frame_spot base_kinds d.now b.now group entry tag)) taken.2 taken.1 in
    p.1
    ∙ ap refused p.2
    ∙ spot_refused base_kinds (frame_verdict base_kinds s bs) (frame_reading base_kinds s bs group entry tag) (frame_spot base_kinds s bs group entry tag) (shown c.in_ok-reading.reading) c.in_err-spot.field-0.0 taken.0 (c.in_ok-reading.ensures.value ∙ reads) (c.in_err-spot.ensures ∙ lies)
