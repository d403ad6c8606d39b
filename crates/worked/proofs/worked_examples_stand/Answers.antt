use Rattle.std.proofs.Common.{refl}
use Rattle.schema.specs.Lines.{lines}
use Rattle.schema.specs.Sections.{sections}
use Rattle.worked.proofs.worked_examples_stand.Goals as goal

pub returns : goal.returns
unfolding lines sections
returns c = record {
  count = refl;
  law = record {
    dictionary_passes = refl;
    frame_is_accepted = refl;
    frame_reads = refl;
    frame_of_its_message = refl;
    older_frame = refl;
    older_is_accepted = refl;
    newer_field_is_absent = refl;
    padding_not_zero = refl;
    code_not_listed = refl;
    required_field_absent = refl;
    nobody_is_no_investor = refl;
  };
}
