use Rattle.std.proofs.Common.{◌∙◌}
use Rattle.blanks.proofs.Headers.{header_put}
use Rattle.blanks.proofs.header.put_header.Goals as goal

pub returns : goal.returns
returns c = record {
  value = header_put c.args.whole c.args.size c.args.template c.args.schema c.args.version c.args.buffer.now c.put_number.new.buffer c.put_number-2.new.buffer c.put_number-3.new.buffer c.put_number-4.new.buffer c.put_number-5.new.buffer c.put_number-6.new.buffer c.requires
      c.put_number.ensures.value c.put_number-2.ensures.value c.put_number-3.ensures.value c.put_number-4.ensures.value c.put_number-5.ensures.value c.put_number-6.ensures.value;
  len = c.put_number-6.ensures.len ∙ c.put_number-5.ensures.len ∙ c.put_number-4.ensures.len ∙ c.put_number-3.ensures.len ∙ c.put_number-2.ensures.len ∙ c.put_number.ensures.len;
}
