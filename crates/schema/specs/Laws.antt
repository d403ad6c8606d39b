-- The laws of dictionaries. Assumes nothing.
use Rattle.std.specs.Prelude.{◌≡◌, ℕ, ◌≤◌, min, List, filter, nat_le}
use Rattle.wire.specs.Bytes.{Bytes}
use Rattle.types.specs.Kinds.{Known}
use Rattle.schema.specs.Verdicts.{fine}
use Rattle.schema.specs.Structure.{Block, Template, Dictionary}
use Rattle.schema.specs.Reading.{verdict, dictionary_of}
use Rattle.schema.specs.Writing.{dictionary_bytes}
use Rattle.schema.specs.WellFormed.{GoodBlock, GoodTemplate, WellFormed}
use Rattle.schema.specs.Seen.{seen_fields, seen_parts, length_at, seen, edition_at}
use Rattle.schema.specs.Editions.{EarlierEdition}

-- Bytes pass the check exactly if they are the writing-out of a well-formed dictionary, and that is the dictionary which is read from them.
pub record PassesExactlyAsWrittenOut (known : Known) (s : List ℕ) : Type 0 where
  pub well_formed : verdict known s ≡ fine → WellFormed known (dictionary_of s)
  pub written_out : verdict known s ≡ fine → dictionary_bytes (dictionary_of s) ≡ s
  pub passes : (d : Dictionary) → WellFormed known d → dictionary_bytes d ≡ s → verdict known s ≡ fine
  pub read_back : (d : Dictionary) → WellFormed known d → dictionary_bytes d ≡ s → dictionary_of s ≡ d

-- bytes that pass the check, as the dictionary that they are
pub record Checked (known : Known) (s : List ℕ) : Type 0 where
  pub bytes : Bytes s
  pub passed : verdict known s ≡ fine

-- What versions show, and how editions stand to one another.
pub record EditionsAgree (known : Known) : Type 0 where
  -- seen at v and then at u is seen at the lesser
  pub seen_twice : (u v : ℕ) (ts : List Template) → seen u (seen v ts) ≡ seen (min u v) ts
  -- what is seen at v are all fields and data with since at most v, and no others
  pub keeps_fields : (version : ℕ) (b : Block) → GoodBlock known version b → (v : ℕ) → seen_fields v b.fields ≡ filter (λ f. nat_le f.since v) b.fields
  pub keeps_parts : (version : ℕ) (t : Template) → GoodTemplate known version t → (v : ℕ) → seen_parts v t.parts ≡ filter (λ d. nat_le d.since v) t.parts
  -- up to its own version an earlier edition shows what the later one shows
  pub shows_the_same : (e d : Dictionary) → EarlierEdition e d → (u : ℕ) → u ≤ e.version → seen u e.templates ≡ seen u d.templates
  -- block lengths never fall as the version rises
  pub lengths_rise : (version : ℕ) (b : Block) → GoodBlock known version b → (u v : ℕ) → u ≤ v → length_at u b.size b.fields ≤ length_at v b.size b.fields
  -- a checked dictionary is an earlier edition of itself
  pub of_itself : (s : List ℕ) → Checked known s → EarlierEdition (dictionary_of s) (dictionary_of s)
  -- up to its version, what is seen of a checked dictionary passes the check and is an earlier edition of it
  pub each_version_passes : (s : List ℕ) → Checked known s → (v : ℕ) → v ≤ (dictionary_of s).version → verdict known (dictionary_bytes (edition_at v (dictionary_of s))) ≡ fine
  pub each_version_read : (s : List ℕ) → Checked known s → (v : ℕ) → v ≤ (dictionary_of s).version → dictionary_of (dictionary_bytes (edition_at v (dictionary_of s))) ≡ edition_at v (dictionary_of s)
  pub each_version_is_earlier : (s : List ℕ) → Checked known s → (v : ℕ) → v ≤ (dictionary_of s).version → EarlierEdition (edition_at v (dictionary_of s)) (dictionary_of s)
  -- an earlier edition of an earlier edition is an earlier edition
  pub transitive : (c e d : Dictionary) → EarlierEdition c e → EarlierEdition e d → EarlierEdition c d
