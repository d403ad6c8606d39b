-- Where a walk over a frame stands, and the items that it has still to hand out. Assumes nothing.
use Rattle.std.specs.Prelude.{◌≡◌, ℕ, ◌+◌, ◌-◌, ◌*◌, Bool, false, cond, ◌||◌, List, [], ◌∷◌, ◌++◌, map, length, take, drop, Some, None, Option, nat_le, nat_lt}
use Rattle.types.specs.Kinds.{Known}
use Rattle.schema.specs.Structure.{Field, Group, Data}
use Rattle.schema.specs.Seen.{seen_group, seen_parts}
use Rattle.schema.specs.Geometry.{kind_of, width_or_0}
use Rattle.message.specs.Frames.{entry_length, entry_count, group_length, content_of, part_length}
use Rattle.message.specs.Lookup.{groups_end}
use Rattle.message.specs.Walks.{Item, field, group, part, block_items, entries_items, groups_items, parts_items}
use Rattle.frame.specs.declared.walking.Item.{Item as CodeItem}
use Rattle.frame.specs.declared.walking.Item.TheVariants as code
use Rattle.frame.specs.declared.walking.At.{At}
use Rattle.lines.specs.declared.groups.GroupLine.{GroupLine}
use Rattle.lines.specs.declared.groups.Groups.{Groups}
use Rattle.lines.specs.declared.parts.SeenParts.{SeenParts}
use Rattle.lines.specs.Held.{groups_in, parts_in}
use Rattle.lines.specs.Walks.{seen_fields_left, groups_left, seen_parts_left}
use Rattle.frame.specs.declared.walking.Step.{Step}
use Rattle.judging.specs.Steps.{seen_from}

-- where a walk stands: the fields still to come in the block that begins at `base`; of the group at hand its fields, how long an entry is, how many are still to come and where the next one begins; the groups still to come and how many bytes of lines they are in, the place of the next group or data, and the data still to come and how many bytes of lines they are in. Fields and data are those that are seen at the version
pub record Spot : Type 0 where
  pub version : ℕ
  pub left : List Field
  pub base : ℕ
  pub fields : List Field
  pub stride : ℕ
  pub entries : ℕ
  pub next : ℕ
  pub groups : List Group
  pub group_lines : ℕ
  pub place : ℕ
  pub parts : List Data
  pub part_lines : ℕ

abbrev pub shown_spot : At → Spot
shown_spot a = record { version = a.version; left = seen_fields_left a.left; base = a.base; fields = seen_fields_left a.fields; stride = a.stride; entries = a.entries; next = a.next; groups = groups_left a.groups; group_lines = length a.groups.lines.rest.now; place = a.place; parts = seen_parts_left a.parts; part_lines = length a.parts.parts.lines.rest.now }

-- before the first field, by a template's lines; groups and data begin at p
abbrev pub spot_at : ℕ → List ℕ → ℕ → Spot
spot_at u body p = record { version = u; left = seen_from u body; base = 12; fields = seen_from u body; stride = 0; entries = 0; next = 0; groups = groups_in body; group_lines = length body; place = p; parts = seen_parts u (parts_in body); part_lines = length body }

-- ---- the items that are left

-- those of the groups, as they are seen at u, and of the data
abbrev pub items_beyond : Known → List ℕ → ℕ → ℕ → List Group → List Data → List Item
items_beyond known bs u p gs ds =
    groups_items known bs p (map (seen_group u) gs)
    ++ parts_items bs (groups_end bs p (map (seen_group u) gs)) ds

-- those of the block at hand, of the entries to come, and of the groups and data
abbrev pub items_left : Known → List ℕ → Spot → List Item
items_left known bs a =
    block_items known bs a.base a.left
    ++ (entries_items known bs a.fields a.stride a.entries a.next
    ++ items_beyond known bs a.version a.place a.groups a.parts)

-- whether all places still to come are near: at most 65,535 bytes of lines, and for each of them room for a group and a data
abbrev pub roomy : Spot → Bool
roomy a =
    cond (nat_lt 65535 a.group_lines || nat_lt 65535 a.part_lines) false
    (cond (nat_lt (17592186044416 - 33554432 * a.group_lines - 1024 * a.part_lines) a.place) false
    (cond ((nat_lt 17592186044416 a.base || nat_lt 65535 a.stride) || nat_lt 255 a.entries) false
    (nat_le a.next (17592186044416 - 65536 * a.entries))))

-- all that is still to be handed out: nothing where there is no room, which is nowhere in a walk over a frame
unfoldable pub items_from : Known → List ℕ → Spot → List Item
items_from known bs a = cond (roomy a) (items_left known bs a) []

abbrev pub first_of : List Item → Option Item
first_of [] = None
first_of (i ∷ is) = Some i

abbrev pub rest_of : List Item → List Item
rest_of [] = []
rest_of (i ∷ is) = is

-- ---- an item of the code

abbrev pub shown_item : CodeItem → Option Item
shown_item (code.Field place tag number argument bytes) = Some (field place tag number argument.now bytes.now)
shown_item (code.Group place tag count head) = Some (group place tag count head.now)
shown_item (code.Data place tag content) = Some (part place tag content.now)
shown_item code.End = None

-- an item and where the walk stands behind it: the first that is left, and then the others are left
pub record Stepped (known : Known) (bs : List ℕ) (a : Spot) (r : Step) : Type 0 where
  pub item : shown_item r.item ≡ first_of (items_from known bs a)
  pub rest : items_from known bs (shown_spot r.at) ≡ rest_of (items_from known bs a)

-- ---- one item, and the spot behind it

abbrev pub field_item : Known → List ℕ → ℕ → Field → Item
field_item known bs base f = field (base + f.offset) f.tag f.type f.argument (take (width_or_0 (kind_of known f)) (drop (base + f.offset) bs))

abbrev pub group_item : List ℕ → ℕ → ℕ → Item
group_item bs p tag = group p tag (entry_count (drop p bs)) (take 3 (drop p bs))

abbrev pub part_item : List ℕ → ℕ → ℕ → Item
part_item bs p tag = part (p + 1) tag (content_of 1 (drop p bs))

-- behind a field, with the fields fs behind it
abbrev pub past_field : List Field → Spot → Spot
past_field fs a = record { version = a.version; left = fs; base = a.base; fields = a.fields; stride = a.stride; entries = a.entries; next = a.next; groups = a.groups; group_lines = a.group_lines; place = a.place; parts = a.parts; part_lines = a.part_lines }

abbrev pub next_entry : Spot → Spot
next_entry a = record { version = a.version; left = a.fields; base = a.next; fields = a.fields; stride = a.stride; entries = a.entries - 1; next = a.next + a.stride; groups = a.groups; group_lines = a.group_lines; place = a.place; parts = a.parts; part_lines = a.part_lines }

abbrev pub no_entries : Spot → Spot
no_entries a = record { version = a.version; left = a.left; base = a.base; fields = a.fields; stride = a.stride; entries = 0; next = a.next; groups = a.groups; group_lines = a.group_lines; place = a.place; parts = a.parts; part_lines = a.part_lines }

-- in the group with the fields fs; the groups gs are behind it, in n bytes of lines
abbrev pub entered : List ℕ → List Field → List Group → ℕ → Spot → Spot
entered bs fs gs n a = record { version = a.version; left = a.left; base = a.base; fields = fs; stride = entry_length (drop a.place bs); entries = entry_count (drop a.place bs); next = a.place + 3; groups = gs; group_lines = n; place = a.place + group_length (drop a.place bs); parts = a.parts; part_lines = a.part_lines }

-- the same by the group's line and the walk over those behind it
abbrev pub entered_by : List ℕ → GroupLine → Groups → Spot → Spot
entered_by bs g behind a = entered bs (seen_from a.version g.lines.now) (groups_left behind) (length behind.lines.rest.now) a

-- behind a data; the data ds are behind it, in n bytes of lines
abbrev pub past : List ℕ → List Data → ℕ → Spot → Spot
past bs ds n a = record { version = a.version; left = a.left; base = a.base; fields = a.fields; stride = a.stride; entries = a.entries; next = a.next; groups = a.groups; group_lines = a.group_lines; place = a.place + part_length 1 (drop a.place bs); parts = ds; part_lines = n }

-- the same by the walk over those behind it
abbrev pub past_part : List ℕ → SeenParts → Spot → Spot
past_part bs behind a = past bs (seen_parts_left behind) (length behind.parts.lines.rest.now) a
