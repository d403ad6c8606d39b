-- What the code of a call has to know of a section before it writes blanks by it. Assumes nothing.
use Rattle.std.specs.Prelude.{◌≡◌, ℕ}
use Rattle.types.specs.Kinds.{Known}
use Rattle.schema.specs.Verdicts.{fine}
use Rattle.schema.specs.Sections.{Section}
use Rattle.schema.specs.Geometry.{section_geometry}

-- types and geometry of a section are right, in some dictionary
pub record RightSection (known : Known) (t : Section) : Type 0 where
  pub version : ℕ
  pub place : ℕ
  pub geometry : section_geometry known version place t ≡ fine
