-- The laws of versions and editions, from the law that bytes pass the check exactly if they are written out.
use Rattle.std.proofs.Common.{ℕ, ◌≤◌, List, refl}
use Rattle.wire.specs.Bytes.{Bytes}
use Rattle.types.specs.Kinds.{Known}
use Rattle.schema.specs.Reading.{dictionary_of}
use Rattle.schema.specs.Writing.{dictionary_bytes}
use Rattle.schema.specs.WellFormed.{WellFormed}
use Rattle.schema.specs.Seen.{edition_at}
use Rattle.schema.specs.Laws.{PassesExactlyAsWrittenOut, Checked, EditionsAgree}
use Rattle.schema.proofs.SeenTwice.{seen_twice, seen_keeps, seen_keeps_parts}
use Rattle.schema.proofs.Lengths.{lengths_rise}
use Rattle.schema.proofs.VersionsWellFormed.{well_formed_at}
use Rattle.schema.proofs.WrittenBytes.{written_in_bytes}
use Rattle.schema.proofs.EditionLaws.{well_formed_itself, earlier_at, shows_the_same, transitive}

module _ (known : Known) (exact : (s : List ℕ) → Bytes s → PassesExactlyAsWrittenOut known s) where
  pub checked_is_well_formed : (s : List ℕ) → Checked known s → WellFormed known (dictionary_of s)
  checked_is_well_formed s c = (exact s c.bytes).well_formed c.passed

  module _ (s : List ℕ) (c : Checked known s) (v : ℕ) (l : v ≤ (dictionary_of s).version) where
    at_version : WellFormed known (edition_at v (dictionary_of s))
    at_version = well_formed_at known (dictionary_of s) (checked_is_well_formed s c) v l

    version_exact : PassesExactlyAsWrittenOut known (dictionary_bytes (edition_at v (dictionary_of s)))
    version_exact = exact (dictionary_bytes (edition_at v (dictionary_of s))) (written_in_bytes known (edition_at v (dictionary_of s)) at_version)

  pub editions_agree : EditionsAgree known
  editions_agree = record {
    seen_twice = seen_twice;
    keeps_fields = seen_keeps known;
    keeps_parts = seen_keeps_parts known;
    shows_the_same = shows_the_same;
    lengths_rise = lengths_rise known;
    of_itself = λ s c. well_formed_itself known (dictionary_of s) (checked_is_well_formed s c);
    each_version_passes = λ s c v l. (version_exact s c v l).passes (edition_at v (dictionary_of s)) (at_version s c v l) refl;
    each_version_read = λ s c v l. (version_exact s c v l).read_back (edition_at v (dictionary_of s)) (at_version s c v l) refl;
    each_version_is_earlier = λ s c v l. earlier_at (dictionary_of s) v l;
    transitive = transitive;
  }
