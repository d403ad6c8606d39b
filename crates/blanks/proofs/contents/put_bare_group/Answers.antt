use Rattle.std.proofs.Common.{◌+◌, [], ◌∷◌, refl, ◌∙◌, arith}
use Rattle.wire.specs.Numbers.{le_bytes}
use Rattle.moves.proofs.Patches.{patched_on}
use Rattle.blanks.proofs.contents.put_bare_group.Goals as goal

pub returns : goal.returns
returns c =
    let room = c.requires in
    record {
      value = patched_on c.args.p (c.args.p + 2) (le_bytes 2 c.args.size) (0 ∷ []) c.args.buffer.now c.put_number.new.buffer c.put_byte.new.buffer c.put_number.ensures.value c.put_byte.ensures.value refl (omega arith);
      len = c.put_byte.ensures.len ∙ c.put_number.ensures.len;
    }
