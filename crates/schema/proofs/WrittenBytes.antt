-- A well-formed dictionary is written out in bytes.
use Rattle.std.proofs.Common.{ℕ, ◌+◌, ◌<◌, List, [], ◌∷◌, ◌++◌, map, length, arith}
use Rattle.std.specs.List.{flat_map, AllByRecursion}
use Rattle.std.proofs.ByRecursion.{All-append, All-map, All-weaker}
use Rattle.wire.specs.Bytes.{Bytes}
use Rattle.wire.specs.Numbers.{be_bytes}
use Rattle.wire.proofs.Values.{be_bytes_are_bytes}
use Rattle.types.specs.Kinds.{Known}
use Rattle.schema.specs.Structure.{Field, Block, Group, Data, Template, Dictionary}
use Rattle.schema.specs.Lines.{Line, field, group, end, part}
use Rattle.schema.specs.Writing.{line_bytes, group_lines, template_lines, template_body, template_bytes, templates_bytes, dictionary_bytes}
use Rattle.schema.specs.WellFormed.{GoodField, GoodBlock, GoodGroup, GoodData, GoodTemplate, WellFormed}

pub all_joined : {X A : Type 0} (P : A → Type 0) (f : X → List A) (xs : List X) → AllByRecursion (λ x. AllByRecursion P (f x)) xs → AllByRecursion P (flat_map f xs)
all_joined P f [] h = tt
all_joined P f (x ∷ xs) h = All-append P (f x) (flat_map f xs) h.0 (all_joined P f xs h.1)

-- a number in front of bytes, and three
number_first : (w n : ℕ) (s : List ℕ) → Bytes s → Bytes (be_bytes w n ++ s)
number_first w n s h = All-append (λ b. b < 256) (be_bytes w n) s (be_bytes_are_bytes w n) h

three_first : (w x y z : ℕ) (s : List ℕ) → Bytes s → Bytes (be_bytes w x ++ (be_bytes 2 y ++ (be_bytes 2 z ++ s)))
three_first w x y z s h = number_first w x (be_bytes 2 y ++ (be_bytes 2 z ++ s)) (number_first 2 y (be_bytes 2 z ++ s) (number_first 2 z s h))

abbrev InBytes : Line → Type 0
InBytes l = Bytes (line_bytes l)

field_bytes : (known : Known) (f : Field) → GoodField known f → InBytes (field f)
field_bytes known f g =
    let long = g.argument_fits in
    let type_fits = g.type_fits in
    let presence = g.presence in
    (omega arith, (omega arith, three_first 4 f.tag f.offset f.since (f.type ∷ (f.presence ∷ f.argument)) (omega arith, (omega arith, g.argument_bytes))))

group_bytes : (tag size : ℕ) → InBytes (group tag size)
group_bytes tag size = (omega arith, (omega arith, number_first 4 tag (be_bytes 2 size) (be_bytes_are_bytes 2 size)))

part_bytes : (d : Data) → GoodData d → InBytes (part d)
part_bytes d g =
    let most = g.most in
    (omega arith, (omega arith, number_first 4 d.tag (be_bytes 2 d.since ++ (d.longest ∷ [])) (number_first 2 d.since (d.longest ∷ []) (omega arith, tt))))

module _ (known : Known) (version : ℕ) where
  fields_bytes : (b : Block) → GoodBlock known version b → AllByRecursion InBytes (map field b.fields)
  fields_bytes b g = All-map InBytes field b.fields (All-weaker (GoodField known) (λ f. InBytes (field f)) (field_bytes known) b.fields g.fields)

  group_lines_bytes : (g : Group) → GoodGroup known version g → AllByRecursion InBytes (group_lines g)
  group_lines_bytes g h =
      (group_bytes g.tag g.block.size, All-append InBytes (map field g.block.fields) (end ∷ []) (fields_bytes g.block h.block) ((omega arith, (omega arith, tt)), tt))

  template_lines_bytes : (t : Template) → GoodTemplate known version t → AllByRecursion InBytes (template_lines t)
  template_lines_bytes t g =
      All-append InBytes (map field t.root.fields) _ (fields_bytes t.root g.root)
      (All-append InBytes (flat_map group_lines t.groups) _
      (all_joined InBytes group_lines t.groups (All-weaker (GoodGroup known version) (λ h. AllByRecursion InBytes (group_lines h)) group_lines_bytes t.groups g.groups))
      (All-map InBytes part t.parts (All-weaker GoodData (λ d. InBytes (part d)) part_bytes t.parts g.parts)))

  template_in_bytes : (t : Template) → GoodTemplate known version t → Bytes (template_bytes t)
  template_in_bytes t g =
      three_first 2 (8 + length (template_body t)) t.number t.since (be_bytes 2 t.root.size ++ template_body t)
      (number_first 2 t.root.size (template_body t) (all_joined (λ b. b < 256) line_bytes (template_lines t) (template_lines_bytes t g)))

pub written_in_bytes : (known : Known) (d : Dictionary) → WellFormed known d → Bytes (dictionary_bytes d)
written_in_bytes known d w =
    let layout = w.layout in (
      omega arith,
      three_first 2 (7 + length (templates_bytes d.templates)) d.schema d.version (templates_bytes d.templates)
          (all_joined (λ b. b < 256) template_bytes d.templates (All-weaker (GoodTemplate known d.version) (λ t. Bytes (template_bytes t)) (template_in_bytes known d.version) d.templates w.templates)),
    )
