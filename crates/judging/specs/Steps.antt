-- The verdicts that the walk over a frame takes one by one. Assumes nothing.
use Rattle.std.specs.Prelude.{ℕ, ◌+◌, ◌-◌, ◌≤◌, Bool, ◌&&◌, List, map, length, take, drop, Some, None, Ok, Err, Option, Result, ◌==◌, nat_le, nat_lt}
use Rattle.wire.specs.declared.refusal.Reason.TheVariants as reason
use Rattle.wire.specs.declared.refusal.Refusal.{Refusal}
use Rattle.wire.specs.Refusals.{bind, refusal}
use Rattle.types.specs.Kinds.{Known}
use Rattle.schema.specs.Verdicts.{Verdict, rule, ◌then◌}
use Rattle.schema.specs.Structure.{Field}
use Rattle.schema.specs.Lines.{lines, there}
use Rattle.schema.specs.Reading.{fields_of, groups_of, parts_of, schema_of, version_of, sections_of}
use Rattle.schema.specs.Seen.{seen_fields, seen_group, seen_parts, length_at}
use Rattle.schema.specs.Geometry.{kind_of, width_or_0, section_geometry}
use Rattle.schema.specs.Finding.{PlacedSection, section_at}
use Rattle.message.specs.Frames.{stated, parts_verdict, GroupView, DataView, content_length, part_length, entries_verdict, groups_verdict, length_fits, count_fits, entry_length, entry_count, group_length, groups_length}
use Rattle.message.specs.Blocks.{Slot, BlockView, padding_verdict, field_verdict, fields_verdict}
use Rattle.message.specs.Messages.{slot_of, group_view, data_view, stated_root, stated_template, stated_schema, stated_version}
use Rattle.wire.specs.Streams.{frame_length}

-- the fields of a block as seen at a version, from the lines that begin with them
abbrev pub seen_from : ℕ → List ℕ → List Field
seen_from version s = seen_fields version (fields_of (there (lines s)))

abbrev pub slots_from : Known → ℕ → List ℕ → List Slot
slots_from known version s = map (slot_of known) (seen_from version s)

-- a field's padding and then its bytes, which begin where the field above ends
abbrev pub one_verdict : Known → Bool → ℕ → ℕ → Field → List ℕ → Verdict
one_verdict known closed base at f bs =
    padding_verdict (base + at) (take (f.offset - at) bs)
    then field_verdict (kind_of known f) (closed && f.presence == 1) (base + f.offset) f.tag (take (width_or_0 (kind_of known f)) (drop (f.offset - at) bs))

-- a block as seen at a version: its declared length, and the lines that begin with its fields
abbrev pub block_at : Known → ℕ → ℕ → List ℕ → BlockView
block_at known version size s = record { size = length_at version size (fields_of (there (lines s))); slots = slots_from known version s }

-- the groups of a template as seen at a version, from its lines
abbrev pub groups_seen : Known → ℕ → List ℕ → List GroupView
groups_seen known version s = map (group_view known) (map (seen_group version) (groups_of (there (lines s))))

-- the head of a group at a place: three bytes, an entry length that fits, a count that fits
abbrev pub head_verdict : Bool → ℕ → ℕ → ℕ → List ℕ → Verdict
head_verdict newer tag own place bs =
    rule (nat_le 3 (length bs)) reason.PastEnd place tag
    then rule (length_fits newer (entry_length bs) own) reason.BlockLength place tag
    then rule (count_fits (entry_count bs)) reason.TooMany (place + 2) tag

-- a group's head and its entries, and how long it is
abbrev pub group_step : Known → ℕ → Bool → Bool → ℕ → ℕ → List ℕ → ℕ → List ℕ → Result ℕ Refusal
group_step known version closed newer tag size s place bs =
    bind (head_verdict newer tag (length_at version size (fields_of (there (lines s)))) place bs)
    (λ _. bind (entries_verdict closed (block_at known version size s) (entry_length bs) tag (entry_count bs) (place + 3) (drop 3 bs)) (λ _. Ok (group_length bs)))

-- the groups' verdict, and how long they are
abbrev pub groups_step : Bool → Bool → List GroupView → ℕ → List ℕ → Result ℕ Refusal
groups_step closed newer gs place bs = bind (groups_verdict closed newer gs place bs) (λ _. Ok (groups_length gs bs))

-- what is told to be passed is there
abbrev pub Within : Result ℕ Refusal → ℕ → Type 0
Within (Ok n) all = n ≤ all
Within (Err e) all = Unit {0}

-- the data of a template as seen at a version, from its lines
abbrev pub parts_seen : ℕ → List ℕ → List DataView
parts_seen version s = map data_view (seen_parts version (parts_of (there (lines s))))

-- a data's verdict, and how long it is with its length
abbrev pub part_step : ℕ → ℕ → ℕ → List ℕ → Result ℕ Refusal
part_step tag longest place bs =
    bind (rule (nat_le 1 (length bs)) reason.PastEnd place tag) (λ _.
    bind (rule (nat_le (content_length 1 bs) longest) reason.TooMany place tag) (λ _.
    bind (rule (nat_le (part_length 1 bs) (length bs)) reason.PastEnd place tag) (λ _. Ok (part_length 1 bs))))

-- what follows the root block: the groups and the data
abbrev pub behind_root : Known → Bool → Bool → ℕ → List ℕ → ℕ → List ℕ → Verdict
behind_root known closed newer version body place bs =
    bind (groups_step closed newer (groups_seen known version body) place bs) (λ n. parts_verdict newer (parts_seen version body) (place + n) (drop n bs))

-- what follows the header, by the lines of the template: its root block, its groups, its data
abbrev pub contents_step : Known → Bool → Bool → ℕ → ℕ → List ℕ → ℕ → List ℕ → Verdict
contents_step known closed newer version size body given bs =
    rule (length_fits newer given (length_at version size (fields_of (there (lines body))))) reason.BlockLength 4 0
    then (rule (nat_le given (length bs)) reason.PastEnd 12 0
    then (fields_verdict closed 12 0 (slots_from known version body) (length_at version size (fields_of (there (lines body)))) bs
    then behind_root known closed newer version body (12 + given) (drop given bs)))

-- the template that was found, or none: its types and geometry, and then what follows the header
abbrev pub found_step : Known → Bool → Bool → ℕ → ℕ → ℕ → List ℕ → Option PlacedSection → Verdict
found_step known closed newer last version given bs None = Err (refusal reason.UnknownTemplate 6 0)
found_step known closed newer last version given bs (Some t) =
    section_geometry known last t.place t.section
    then contents_step known closed newer version t.section.size t.section.body given bs

-- the header of a frame: its size, its encoding, its schema id
abbrev pub header_verdict : List ℕ → List ℕ → Verdict
header_verdict s bs =
    rule (frame_length (length bs) && stated bs 0 == length bs) reason.FrameSize 0 0
    then rule (stated bs 2 == 0xEB50) reason.Encoding 2 0
    then rule (stated_schema bs == schema_of s) reason.SchemaId 8 0

-- the template that the header names
abbrev pub template_step : Known → Bool → List ℕ → List ℕ → Verdict
template_step known closed s bs =
    found_step known closed (nat_lt (version_of s) (stated_version bs)) (version_of s) (stated_version bs) (stated_root bs) (drop 12 bs) (section_at (stated_template bs) (stated_version bs) 7 (sections_of s))
