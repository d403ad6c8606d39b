-- A message, its frame under a dictionary, the verdict on a frame, and what a frame reads as. Assumes nothing.
use Rattle.std.specs.Prelude.{◌≡◌, ℕ, ◌+◌, ◌≤◌, Bool, true, false, ◌&&◌, List, [], ◌++◌, map, length, drop, Some, None, Option, ◌==◌, nat_lt}
use Rattle.wire.specs.declared.refusal.Reason.TheVariants as reason
use Rattle.wire.specs.Numbers.{le_bytes}
use Rattle.wire.specs.Streams.{frame_length}
use Rattle.types.specs.Kinds.{Known}
use Rattle.schema.specs.Verdicts.{Verdict, fine, rule, ◌then◌}
use Rattle.schema.specs.Structure.{Field, Block, Group, Data, Template, Dictionary}
use Rattle.schema.specs.Geometry.{kind_of, section_geometry}
use Rattle.schema.specs.Reading.{version_of, sections_of, dictionary_of}
use Rattle.schema.specs.Seen.{template_at}
use Rattle.schema.specs.Finding.{PlacedSection, section_at}
use Rattle.message.specs.Blocks.{Slot, BlockView}
use Rattle.message.specs.Frames.{GroupView, DataView, View, Contents, contents_bytes, stated, contents_verdict, contents_read, Holds}

-- a message: the number of its template, the version at which the template is seen, and what it holds
pub record Message : Type 0 where
  pub template : ℕ
  pub version : ℕ
  pub contents : Contents

-- ---- a template with the kinds that a library knows

module _ (known : Known) where
  -- a field with the kind of its type
  abbrev pub slot_of : Field → Slot
  slot_of f = record { tag = f.tag; offset = f.offset; kind = kind_of known f; required = (f.presence == 1) }

  -- a block, a group, a data and a template with the kinds of their fields
  abbrev pub block_view : Block → BlockView
  block_view b = record { size = b.size; slots = map slot_of b.fields }

  abbrev pub group_view : Group → GroupView
  group_view g = record { tag = g.tag; block = block_view g.block }

abbrev pub data_view : Data → DataView
data_view d = record { tag = d.tag; longest = d.longest; prefix = d.prefix }

abbrev pub view_of : Known → Template → View
view_of known t = record { root = block_view known t.root; groups = map (group_view known) t.groups; parts = map data_view t.parts }

-- ---- the frame of a message

-- the header: six numbers of two bytes, the little end first
abbrev pub header : ℕ → ℕ → ℕ → ℕ → ℕ → List ℕ
header whole size number schema version = le_bytes 2 whole ++ (le_bytes 2 0xEB50 ++ (le_bytes 2 size ++ (le_bytes 2 number ++ (le_bytes 2 schema ++ le_bytes 2 version))))

-- the frame of a message by its template, under a schema id
abbrev pub frame_of : Known → ℕ → Template → Message → List ℕ
frame_of known schema t m =
    header (12 + length (contents_bytes (view_of known t) m.contents)) t.root.size m.template schema m.version
    ++ contents_bytes (view_of known t) m.contents

-- the frame by the template that was found
abbrev pub frame_by : Known → ℕ → Option Template → Message → List ℕ
frame_by known schema None m = []
frame_by known schema (Some t) m = frame_of known schema t m

-- the frame of a message; no bytes where the dictionary has no such template at its version
abbrev pub frame : Known → Dictionary → Message → List ℕ
frame known d m = frame_by known d.schema (template_at d m.template m.version) m

-- ---- the verdict on a frame

abbrev pub geometry_of : Known → ℕ → Option PlacedSection → Verdict
geometry_of known version None = fine
geometry_of known version (Some t) = section_geometry known version t.place t.section

-- types and geometry of the template of a number at version u, all of its lines, those newer than u too
abbrev pub template_geometry : Known → List ℕ → ℕ → ℕ → Verdict
template_geometry known s number u = geometry_of known (version_of s) (section_at number u 7 (sections_of s))

-- whether something was found
abbrev pub is_there : {X : Type 0} → Option X → Bool
is_there None = false
is_there (Some x) = true

-- what follows the header, by the template that was found
abbrev pub contents_by : Known → Bool → Bool → Option Template → ℕ → List ℕ → Verdict
contents_by known closed newer None given bs = fine
contents_by known closed newer (Some t) given bs = contents_verdict closed newer (view_of known t) given 12 bs

-- the numbers that a frame's header states: the length of its root block, its template, its schema id, its version
abbrev pub stated_root : List ℕ → ℕ
stated_root bs = stated bs 4

abbrev pub stated_template : List ℕ → ℕ
stated_template bs = stated bs 6

abbrev pub stated_schema : List ℕ → ℕ
stated_schema bs = stated bs 8

abbrev pub stated_version : List ℕ → ℕ
stated_version bs = stated bs 10

-- the first rule that bytes break as a frame under the dictionary that the bytes s are
-- `closed` asks for the required fields: without it, these are the frames of messages that are still being filled in
abbrev pub verdict_when : Bool → Known → List ℕ → List ℕ → Verdict
verdict_when closed known s bs =
    rule (frame_length (length bs) && stated bs 0 == length bs) reason.FrameSize 0 0
    then rule (stated bs 2 == 0xEB50) reason.Encoding 2 0
    then rule (stated_schema bs == (dictionary_of s).schema) reason.SchemaId 8 0
    then rule (is_there (template_at (dictionary_of s) (stated_template bs) (stated_version bs))) reason.UnknownTemplate 6 0
    then template_geometry known s (stated_template bs) (stated_version bs)
    then contents_by known closed (nat_lt (dictionary_of s).version (stated_version bs)) (template_at (dictionary_of s) (stated_template bs) (stated_version bs)) (stated_root bs) (drop 12 bs)

-- the first rule that bytes break as the frame of a message that closes
abbrev pub frame_verdict : Known → List ℕ → List ℕ → Verdict
frame_verdict known s bs = verdict_when true known s bs

-- ---- what a frame reads as

-- what the bytes behind the header read as, by the template that was found
abbrev pub contents_read_by : Known → Option Template → ℕ → List ℕ → Contents
contents_read_by known None given bs = record { root = []; groups = []; parts = [] }
contents_read_by known (Some t) given bs = contents_read (view_of known t) given bs

-- the message that bytes read as, whatever they are
abbrev pub message_of : Known → Dictionary → List ℕ → Message
message_of known d bs = record {
  template = stated_template bs;
  version = stated_version bs;
  contents = contents_read_by known (template_at d (stated_template bs) (stated_version bs)) (stated_root bs) (drop 12 bs);
}

-- ---- messages that stand, and that close

-- a message that a form may hold: its template is there at its version, which is not above the dictionary's; it holds what the template asks for; its frame has at most 16,384 bytes
-- if closed, no required field is absent
pub record Stands (closed : Bool) (known : Known) (d : Dictionary) (m : Message) : Type 0 where
  pub template : Template
  pub found : template_at d m.template m.version ≡ Some template
  pub version : m.version ≤ d.version
  pub right : Holds closed (view_of known template) m.contents
  pub short : length (frame known d m) ≤ 16384

-- a message that closes
abbrev pub Closes : Known → Dictionary → Message → Type 0
Closes known d m = Stands true known d m
