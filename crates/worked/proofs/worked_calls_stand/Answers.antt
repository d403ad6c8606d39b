use Rattle.std.proofs.Common.{refl, arith}
use Rattle.schema.specs.Lines.{lines}
use Rattle.schema.specs.Sections.{sections}
use Rattle.worked.proofs.worked_calls_stand.Goals as goal

pub returns : goal.returns
unfolding lines sections
returns c = record {
  count = refl;
  law = record {
    zero_names_absent = refl;
    largest_is_taken = refl;
    all_bits_one_names_absent = refl;
    longest_data_is_taken = refl;
    longer_data_is_refused = refl;
    open_needs_28_bytes = refl;
    open_takes_28_bytes = refl;
    no_version_7 = refl;
    calls_leave_the_frame = refl;
    calls_leave_the_older_frame = refl;
    calls_keep_to_the_older_version = (omega arith, tt);
  };
}
