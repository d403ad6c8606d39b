use Rattle.std.proofs.Common.{◌∙◌}
use Rattle.std.proofs.lemmas.List.{take_all}
use Rattle.types.proofs.Held.{copied}
use Rattle.types.proofs.pattern.Pattern.of.Goals as goal

pub returns : goal.returns
returns c =
    let s = c.args.bytes.now in
    let value = copied s c.copy_from_slice.new.self _ c.min-width.result c.min-width.ensures c.copy_from_slice.ensures.after in
    record { value = value; whole = λ h. value ∙ take_all 20 s h }
