-- Types and geometry: that each type is known and each field has its place. Assumes nothing.
use Rattle.std.specs.Prelude.{ℕ, ◌+◌, Bool, true, false, ◌&&◌, List, [], ◌∷◌, Some, None, Option, nat_le}
use Rattle.wire.specs.declared.refusal.Reason.TheVariants as reason
use Rattle.types.specs.Kinds.{Kind, Known}
use Rattle.schema.specs.Verdicts.{Verdict, fine, rule, ◌then◌}
use Rattle.schema.specs.Structure.{Field, Data}
use Rattle.schema.specs.Lines.{Line, field, group, end, part, line_size, lines, there}
use Rattle.schema.specs.Sections.{Section, section_size}

-- the lines above a line, as far as geometry looks at them: the length of the block that stands open, where the field above ends and its since, and the since of the data above
pub record Ground : Type 0 where
  pub size : ℕ
  pub taken : ℕ
  pub since : ℕ
  pub part_since : ℕ

-- the ground of the first field of a block
abbrev pub block_ground : ℕ → ℕ → Ground
block_ground size part_since = record { size = size; taken = 0; since = 0; part_since = part_since }

-- the longest block
abbrev pub block_fits : ℕ → Bool
block_fits size = nat_le size 16372

-- a since does not fall, and is not above the dictionary's version
abbrev pub since_fits : ℕ → ℕ → ℕ → Bool
since_fits version before since = nat_le before since && nat_le since version

abbrev pub is_known : Option Kind → Bool
is_known None = false
is_known (Some k) = true

abbrev pub width_or_0 : Option Kind → ℕ
width_or_0 None = 0
width_or_0 (Some k) = k.width

module _ (known : Known) where
  abbrev pub kind_of : Field → Option Kind
  kind_of f = known f.type f.argument

  -- where a field ends in its block
  abbrev pub field_end : Field → ℕ
  field_end f = f.offset + width_or_0 (kind_of f)

  -- a field's type is known, and its presence is optional or required
  abbrev pub well_typed : Field → Bool
  well_typed f = is_known (kind_of f) && nat_le f.presence 1

  -- what is above the next line, behind a line
  abbrev pub ground_past : Ground → Line → Ground
  ground_past g (field f) = record { size = g.size; taken = field_end f; since = f.since; part_since = g.part_since }
  ground_past g (group tag size) = block_ground size g.part_since
  ground_past g end = g
  ground_past g (part d) = record { size = g.size; taken = g.taken; since = g.since; part_since = d.since }

-- the longest that a data may be
abbrev pub longest_fits : Data → Bool
longest_fits d = nat_le 1 d.longest && nat_le d.longest 254

module _ (known : Known) (version : ℕ) where
  -- a field begins where the one above ends or behind it, and ends within its block
  abbrev pub well_placed : Ground → Field → Bool
  well_placed g f = (nat_le g.taken f.offset && nat_le (field_end known f) g.size) && since_fits version g.since f.since

  abbrev pub line_verdict : Ground → ℕ → Line → Verdict
  line_verdict g p (field f) = rule (well_typed known f) reason.UnknownType p f.tag then rule (well_placed g f) reason.LineGeometry p f.tag
  line_verdict g p (group tag size) = rule (block_fits size) reason.LineGeometry p tag
  line_verdict g p end = fine
  line_verdict g p (part d) = rule (longest_fits d) reason.UnknownType p d.tag then rule (since_fits version g.part_since d.since) reason.LineGeometry p d.tag

  -- line by line
  abbrev pub lines_geometry : Ground → ℕ → List Line → Verdict
  lines_geometry g p [] = fine
  lines_geometry g p (l ∷ ls) = line_verdict g p l then lines_geometry (ground_past known g l) (p + line_size l) ls

  -- a template at a place: its head, then its lines
  abbrev pub section_geometry : ℕ → Section → Verdict
  section_geometry p t =
      rule (nat_le t.since version && block_fits t.size) reason.LineGeometry p 0
      then lines_geometry (block_ground t.size 0) (p + 8) (there (lines t.body))

  abbrev pub sections_geometry : ℕ → List Section → Verdict
  sections_geometry p [] = fine
  sections_geometry p (t ∷ ts) = section_geometry p t then sections_geometry (p + section_size t) ts
