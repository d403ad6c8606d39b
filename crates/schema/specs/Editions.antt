-- When one dictionary is an earlier edition of another. Assumes nothing.
use Rattle.std.specs.Prelude.{◌≡◌, ◌≤◌, List}
use Rattle.schema.specs.Structure.{Template, Dictionary}
use Rattle.schema.specs.Seen.{seen}

-- how the templates of an earlier edition stand to what the later one shows at its version: the same, line for line and length for length
abbrev pub SameTemplates : List Template → List Template → Type 0
SameTemplates earlier shown = shown ≡ earlier

-- the schema ids agree, the earlier version is not above the later one, and the later dictionary seen at it has exactly the earlier one's templates, lines and block lengths
pub record EarlierEdition (earlier later : Dictionary) : Type 0 where
  pub schema : earlier.schema ≡ later.schema
  pub version : earlier.version ≤ later.version
  pub templates : SameTemplates earlier.templates (seen earlier.version later.templates)
