-- A template as seen at a version, what a message of it holds, its bytes, and the first rule that bytes break. Assumes nothing.
use Rattle.std.specs.Prelude.{ℕ, zero, suc, ◌+◌, ◌*◌, ◌≤◌, Bool, cond, ◌||◌, T, List, [], ◌∷◌, ◌++◌, length, take, drop, ◌==◌, nat_le, slice_index}
use Rattle.wire.specs.declared.refusal.Reason.TheVariants as reason
use Rattle.wire.specs.Bytes.{Bytes}
use Rattle.wire.specs.Numbers.{le_value, le_bytes}
use Rattle.types.specs.Meanings.{Meaning}
use Rattle.schema.specs.Verdicts.{Verdict, fine, rule, ◌then◌}
use Rattle.message.specs.Blocks.{BlockView, block_bytes, block_verdict, block_meanings, Filled, Complete}

-- a group: each of its entries is such a block
pub record GroupView : Type 0 where
  pub tag : ℕ
  pub block : BlockView

-- a data: at most `longest` bytes, behind their number in `prefix` bytes
pub record DataView : Type 0 where
  pub tag : ℕ
  pub longest : ℕ
  pub prefix : ℕ

-- a template as seen at a version, with the kinds of its fields
pub record View : Type 0 where
  pub root : BlockView
  pub groups : List GroupView
  pub parts : List DataView

-- what a message holds: a meaning for each root field, a list of entries for each group, bytes for each data
pub record Contents : Type 0 where
  pub root : List Meaning
  pub groups : List (List (List Meaning))
  pub parts : List (List ℕ)

-- ---- bytes

-- entry after entry
abbrev pub entries_bytes : BlockView → List (List Meaning) → List ℕ
entries_bytes b [] = []
entries_bytes b (ms ∷ es) = block_bytes b ms ++ entries_bytes b es

-- the length of an entry, the number of entries, the entries
abbrev pub group_bytes : GroupView → List (List Meaning) → List ℕ
group_bytes g es = le_bytes 2 g.block.size ++ (length es ∷ entries_bytes g.block es)

-- group after group
abbrev pub groups_bytes : List GroupView → List (List (List Meaning)) → List ℕ
groups_bytes [] ess = []
groups_bytes (g ∷ gs) [] = []
groups_bytes (g ∷ gs) (es ∷ ess) = group_bytes g es ++ groups_bytes gs ess

-- the number of bytes, the bytes
abbrev pub part_bytes : DataView → List ℕ → List ℕ
part_bytes d x = le_bytes d.prefix (length x) ++ x

-- data after data
abbrev pub parts_bytes : List DataView → List (List ℕ) → List ℕ
parts_bytes [] xs = []
parts_bytes (d ∷ ds) [] = []
parts_bytes (d ∷ ds) (x ∷ xs) = part_bytes d x ++ parts_bytes ds xs

-- what follows the header
abbrev pub contents_bytes : View → Contents → List ℕ
contents_bytes v c = block_bytes v.root c.root ++ (groups_bytes v.groups c.groups ++ parts_bytes v.parts c.parts)

-- ---- what bytes state

-- the number of two bytes at a place
abbrev pub stated : List ℕ → ℕ → ℕ
stated bs p = le_value (take 2 (drop p bs))

-- of bytes that begin with a group: how long an entry is
abbrev pub entry_length : List ℕ → ℕ
entry_length bs = le_value (take 2 bs)

-- how many entries there are
abbrev pub entry_count : List ℕ → ℕ
entry_count bs = slice_index bs 2

-- how long the group is, its head and its entries
abbrev pub group_length : List ℕ → ℕ
group_length bs = 3 + entry_count bs * entry_length bs

-- of bytes that begin with groups: how long they are together
abbrev pub groups_length : List GroupView → List ℕ → ℕ
groups_length [] bs = 0
groups_length (g ∷ gs) bs = group_length bs + groups_length gs (drop (group_length bs) bs)

-- of bytes that begin with a data: how many bytes it has
abbrev pub content_length : ℕ → List ℕ → ℕ
content_length prefix bs = le_value (take prefix bs)

-- how many bytes it has with those of that number
abbrev pub part_length : ℕ → List ℕ → ℕ
part_length prefix bs = prefix + content_length prefix bs

-- ---- rules

-- a block's length is its own or, in a frame newer than the dictionary, at least that
abbrev pub length_fits : Bool → ℕ → ℕ → Bool
length_fits newer given own = cond newer (nat_le own given) (given == own)

-- n entries, each `stride` bytes long, of the group with the tag
abbrev pub entries_verdict : Bool → BlockView → ℕ → ℕ → ℕ → ℕ → List ℕ → Verdict
entries_verdict closed b stride tag zero p bs = fine
entries_verdict closed b stride tag (suc n) p bs =
    rule (nat_le stride (length bs)) reason.PastEnd p tag
    then block_verdict closed p b bs
    then entries_verdict closed b stride tag n (p + stride) (drop stride bs)

-- at most 254 entries
abbrev pub count_fits : ℕ → Bool
count_fits n = nat_le n 254

-- a group at place p: its head is there, states the length of its entries and at most 254 of them, and each entry is right
abbrev pub group_verdict : Bool → Bool → GroupView → ℕ → List ℕ → Verdict
group_verdict closed newer g p bs =
    rule (nat_le 3 (length bs)) reason.PastEnd p g.tag
    then rule (length_fits newer (entry_length bs) g.block.size) reason.BlockLength p g.tag
    then rule (count_fits (entry_count bs)) reason.TooMany (p + 2) g.tag
    then entries_verdict closed g.block (entry_length bs) g.tag (entry_count bs) (p + 3) (drop 3 bs)

-- group after group, the first at place p
abbrev pub groups_verdict : Bool → Bool → List GroupView → ℕ → List ℕ → Verdict
groups_verdict closed newer [] p bs = fine
groups_verdict closed newer (g ∷ gs) p bs = group_verdict closed newer g p bs then groups_verdict closed newer gs (p + group_length bs) (drop (group_length bs) bs)

-- the data, and then nothing, unless the frame is newer than the dictionary
abbrev pub parts_verdict : Bool → List DataView → ℕ → List ℕ → Verdict
parts_verdict newer [] p bs = rule (newer || length bs == 0) reason.LeftOver p 0
parts_verdict newer (d ∷ ds) p bs =
    rule (nat_le d.prefix (length bs)) reason.PastEnd p d.tag
    then rule (nat_le (content_length d.prefix bs) d.longest) reason.TooMany p d.tag
    then rule (nat_le (part_length d.prefix bs) (length bs)) reason.PastEnd p d.tag
    then parts_verdict newer ds (p + part_length d.prefix bs) (drop (part_length d.prefix bs) bs)

-- what follows the header, at place p; `given` is the length of the root block that the header states
abbrev pub contents_verdict : Bool → Bool → View → ℕ → ℕ → List ℕ → Verdict
contents_verdict closed newer v given p bs =
    rule (length_fits newer given v.root.size) reason.BlockLength 4 0
    then rule (nat_le given (length bs)) reason.PastEnd p 0
    then block_verdict closed p v.root bs
    then groups_verdict closed newer v.groups (p + given) (drop given bs)
    then parts_verdict newer v.parts (p + given + groups_length v.groups (drop given bs)) (drop (groups_length v.groups (drop given bs)) (drop given bs))

-- ---- what bytes read as

-- what n entries read as, each `stride` bytes long
abbrev pub entries_read : BlockView → ℕ → ℕ → List ℕ → List (List Meaning)
entries_read b stride zero bs = []
entries_read b stride (suc n) bs = block_meanings b bs ∷ entries_read b stride n (drop stride bs)

-- what bytes that begin with groups read as
abbrev pub groups_read : List GroupView → List ℕ → List (List (List Meaning))
groups_read [] bs = []
groups_read (g ∷ gs) bs = entries_read g.block (entry_length bs) (entry_count bs) (drop 3 bs) ∷ groups_read gs (drop (group_length bs) bs)

-- the content of a data that bytes begin with
abbrev pub content_of : ℕ → List ℕ → List ℕ
content_of prefix bs = take (content_length prefix bs) (drop prefix bs)

-- what bytes that begin with data read as
abbrev pub parts_read : List DataView → List ℕ → List (List ℕ)
parts_read [] bs = []
parts_read (d ∷ ds) bs = content_of d.prefix bs ∷ parts_read ds (drop (part_length d.prefix bs) bs)

-- what the bytes behind the header read as, whatever they are; `given` is the length of the root block that the header states
abbrev pub contents_read : View → ℕ → List ℕ → Contents
contents_read v given bs = record {
  root = block_meanings v.root bs;
  groups = groups_read v.groups (drop given bs);
  parts = parts_read v.parts (drop (groups_length v.groups (drop given bs)) (drop given bs));
}

-- ---- what a message may hold

-- each meaning has a pattern and, if closed, no required field is absent
abbrev pub Entry : Bool → BlockView → List Meaning → Type 0
Entry closed b ms = Filled b.slots ms × (T closed → Complete b.slots ms)

-- entry by entry
abbrev pub Entries : Bool → BlockView → List (List Meaning) → Type 0
Entries closed b [] = Unit {0}
Entries closed b (ms ∷ es) = Entry closed b ms × Entries closed b es

-- for each group at most 254 entries
abbrev pub Groups : Bool → List GroupView → List (List (List Meaning)) → Type 0
Groups closed [] [] = Unit {0}
Groups closed [] (es ∷ ess) = ⊥
Groups closed (g ∷ gs) [] = ⊥
Groups closed (g ∷ gs) (es ∷ ess) = (length es ≤ 254) × Entries closed g.block es × Groups closed gs ess

-- for each data bytes, at most its longest
abbrev pub Parts : List DataView → List (List ℕ) → Type 0
Parts [] [] = Unit {0}
Parts [] (x ∷ xs) = ⊥
Parts (d ∷ ds) [] = ⊥
Parts (d ∷ ds) (x ∷ xs) = (length x ≤ d.longest) × Bytes x × Parts ds xs

-- contents that a message of a template may hold
pub record Holds (closed : Bool) (v : View) (c : Contents) : Type 0 where
  pub root : Entry closed v.root c.root
  pub groups : Groups closed v.groups c.groups
  pub parts : Parts v.parts c.parts
