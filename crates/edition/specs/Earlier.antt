-- The test of an earlier edition. Assumes nothing.
use Rattle.std.specs.Prelude.{ℕ, Bool, ◌&&◌, List, drop, ◌==◌, nat_le}
use Rattle.schema.specs.Reading.{schema_of, version_of}
use Rattle.schema.specs.Seen.{seen}
use Rattle.edition.specs.Same.{same_lists, same_template}
use Rattle.lines.specs.Held.{templates_in}

-- the same schema id, no version above the later one, and what the later bytes show at that version are the templates of the earlier ones
abbrev pub is_earlier : List ℕ → List ℕ → Bool
is_earlier e d = schema_of e == schema_of d && (nat_le (version_of e) (version_of d) && same_lists same_template (seen (version_of e) (templates_in (drop 7 d))) (templates_in (drop 7 e)))
