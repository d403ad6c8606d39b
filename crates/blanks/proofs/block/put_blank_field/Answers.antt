use Rattle.std.proofs.Common.{◌+◌, Ok, ap, ◌∙◌, arith}
use Rattle.schema.specs.Geometry.{kind_of}
use Rattle.dictionary.specs.Shown.{shown_field}
use Rattle.blanks.proofs.Blocks.{blank_at, answered, field_put}
use Rattle.blanks.proofs.block.put_blank_field.Goals as goal

pub put-requires : goal.put-requires
put-requires g c =
    let known = g.L.TypeLibrary.known c.args.library.now in
    let lawful = g.met.L.TypeLibrary.lawful c.args.library.now in
    let f = shown_field c.args.f in
    let told = ap Ok c.as_bytes-bytes.ensures.value ∙ c.in-Ok.ensures in
    let long = (answered (kind_of known f) _ (blank_at known lawful f c.requires.named) told).1 in
    let kept = c.put_zeros.ensures.len in
    let room = c.requires.room in
    omega (arith, long, kept, room)

pub returns-in-Ok : goal.returns-in-Ok
returns-in-Ok g c =
    let known = g.L.TypeLibrary.known c.args.library.now in
    let lawful = g.met.L.TypeLibrary.lawful c.args.library.now in
    let f = shown_field c.args.f in
    let told = ap Ok c.as_bytes-bytes.ensures.value ∙ c.in-Ok.ensures in
    let long = (answered (kind_of known f) _ (blank_at known lawful f c.requires.named) told).1 in
    record {
      value = field_put known lawful c.args.base c.args.at f _ c.args.buffer.now c.put_zeros.new.buffer c.put.new.buffer c.requires.order c.requires.named told c.requires.room c.put_zeros.ensures.value c.put.ensures.value;
      end = ap (λ n. f.offset + n) long;
      len = c.put.ensures.len ∙ c.put_zeros.ensures.len;
    }
