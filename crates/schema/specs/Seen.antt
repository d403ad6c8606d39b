-- A dictionary as it is seen at a version. Assumes nothing.
use Rattle.std.specs.Prelude.{ℕ, cond, List, [], ◌∷◌, map, Some, None, Option, ◌==◌, nat_le}
use Rattle.schema.specs.Structure.{Field, Block, Group, Data, Template, Dictionary}

-- those in front of the first that is newer than v: since never falls along a block or the data, so these are all with since at most v
abbrev pub seen_fields : ℕ → List Field → List Field
seen_fields v [] = []
seen_fields v (f ∷ fs) = cond (nat_le f.since v) (f ∷ seen_fields v fs) []

abbrev pub seen_parts : ℕ → List Data → List Data
seen_parts v [] = []
seen_parts v (d ∷ ds) = cond (nat_le d.since v) (d ∷ seen_parts v ds) []

-- the offset of the first field that is newer than v, or else the declared length
abbrev pub length_at : ℕ → ℕ → List Field → ℕ
length_at v size [] = size
length_at v size (f ∷ fs) = cond (nat_le f.since v) (length_at v size fs) f.offset

-- a block's length at v
abbrev pub block_length : ℕ → Block → ℕ
block_length v b = length_at v b.size b.fields

abbrev pub seen_block : ℕ → Block → Block
seen_block v b = record { size = block_length v b; fields = seen_fields v b.fields }

abbrev pub seen_group : ℕ → Group → Group
seen_group v g = record { tag = g.tag; block = seen_block v g.block }

abbrev pub seen_template : ℕ → Template → Template
seen_template v t = record { number = t.number; since = t.since; root = seen_block v t.root; groups = map (seen_group v) t.groups; parts = seen_parts v t.parts }

-- the templates with since at most v, each as seen at v
abbrev pub seen : ℕ → List Template → List Template
seen v [] = []
seen v (t ∷ ts) = cond (nat_le t.since v) (seen_template v t ∷ seen v ts) (seen v ts)

-- a dictionary as seen at v, as an edition of version v
abbrev pub edition_at : ℕ → Dictionary → Dictionary
edition_at v d = record { layout = d.layout; schema = d.schema; version = v; templates = seen v d.templates }

-- the template of a number
abbrev pub find : ℕ → List Template → Option Template
find n [] = None
find n (t ∷ ts) = cond (t.number == n) (Some t) (find n ts)

-- the template of a number as seen at a version
abbrev pub template_at : Dictionary → ℕ → ℕ → Option Template
template_at d number v = find number (seen v d.templates)
