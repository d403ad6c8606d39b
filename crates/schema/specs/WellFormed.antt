-- When a dictionary is well formed, said of what it says and not of its bytes. Assumes nothing.
use Rattle.std.specs.Prelude.{◌≡◌, ℕ, ◌+◌, ◌^◌, ◌<◌, ◌≤◌, List, [], ◌∷◌, ◌++◌, map, length, Some, ◌≢◌}
use Rattle.std.specs.List.{AllByRecursion}
use Rattle.wire.specs.Bytes.{Bytes}
use Rattle.types.specs.Kinds.{Kind, Known}
use Rattle.schema.specs.Structure.{Field, Block, Group, Data, Template, Dictionary}
use Rattle.schema.specs.Geometry.{field_end}
use Rattle.schema.specs.Writing.{dictionary_bytes}

-- tags that differ from one another and from 0
abbrev pub Distinct : List ℕ → Type 0
Distinct [] = Unit {0}
Distinct (t ∷ ts) = ((t ≢ 0) × AllByRecursion (λ u. u ≢ t) ts) × Distinct ts

-- since does not fall, from what is given on, and none is above the version
abbrev pub Sinces : ℕ → ℕ → List ℕ → Type 0
Sinces version before [] = Unit {0}
Sinces version before (s ∷ ss) = (before ≤ s) × (s ≤ version) × Sinces version s ss

module _ (known : Known) where
  -- a field's type is known, its presence 0 or 1, and each number has room in its line
  pub record GoodField (f : Field) : Type 0 where
    pub kind : Kind
    pub known_type : known f.type f.argument ≡ Some kind
    pub presence : f.presence ≤ 1
    pub tag_fits : f.tag < 2 ^ 32
    pub offset_fits : f.offset < 2 ^ 16
    pub since_fits : f.since < 2 ^ 16
    pub type_fits : f.type < 2 ^ 8
    pub argument_fits : length f.argument ≤ 243
    pub argument_bytes : Bytes f.argument

  -- fields in rising places: each begins where the one before ends, or behind it, and the last ends within the block
  abbrev pub Places : ℕ → ℕ → List Field → Type 0
  Places taken size [] = Unit {0}
  Places taken size (f ∷ fs) = (taken ≤ f.offset) × (field_end known f ≤ size) × Places (field_end known f) size fs

  pub record GoodBlock (version : ℕ) (b : Block) : Type 0 where
    pub size_fits : b.size ≤ 16372
    pub few : length b.fields ≤ 64
    pub fields : AllByRecursion GoodField b.fields
    pub places : Places 0 b.size b.fields
    pub sinces : Sinces version 0 (map (λ f. f.since) b.fields)

  pub record GoodGroup (version : ℕ) (g : Group) : Type 0 where
    pub tag_fits : g.tag < 2 ^ 32
    pub block : GoodBlock version g.block
    pub tags : Distinct (map (λ f. f.tag) g.block.fields)

pub record GoodData (d : Data) : Type 0 where
  pub tag_fits : d.tag < 2 ^ 32
  pub since_fits : d.since < 2 ^ 16
  pub least : 1 ≤ d.longest
  pub most : d.longest ≤ 254
  pub one_byte : d.prefix ≡ 1

-- the tags of the root's fields, the groups and the data are one set
abbrev pub outer_tags : Template → List ℕ
outer_tags t = map (λ f. f.tag) t.root.fields ++ (map (λ g. g.tag) t.groups ++ map (λ d. d.tag) t.parts)

module _ (known : Known) (version : ℕ) where
  pub record GoodTemplate (t : Template) : Type 0 where
    pub number_fits : t.number < 2 ^ 16
    pub since : t.since ≤ version
    pub root : GoodBlock known version t.root
    pub groups : AllByRecursion (GoodGroup known version) t.groups
    pub few_groups : length t.groups ≤ 8
    pub parts : AllByRecursion GoodData t.parts
    pub few_parts : length t.parts ≤ 8
    pub part_sinces : Sinces version 0 (map (λ d. d.since) t.parts)
    pub tags : Distinct (outer_tags t)

-- numbers rise, from `least` on
abbrev pub Numbered : ℕ → List Template → Type 0
Numbered least [] = Unit {0}
Numbered least (t ∷ ts) = (least ≤ t.number) × Numbered (t.number + 1) ts

pub record WellFormed (known : Known) (d : Dictionary) : Type 0 where
  pub layout : d.layout ≡ 1
  pub schema_fits : d.schema < 2 ^ 16
  pub version_fits : d.version < 2 ^ 16
  pub numbers : Numbered 0 d.templates
  pub templates : AllByRecursion (GoodTemplate known d.version) d.templates
  pub short : length (dictionary_bytes d) ≤ 32000
