-- How the contents of a message change under the calls that fill in a form. Assumes nothing.
use Rattle.std.specs.Prelude.{ℕ, zero, suc, ◌+◌, ◌-◌, ◌*◌, min, Bool, cond, List, [], ◌∷◌, ◌++◌, map, length, take, Some, None, Ok, Err, Option, Result, ◌==◌, nat_le, nat_lt}
use Rattle.wire.specs.declared.refusal.Reason.TheVariants as reason
use Rattle.wire.specs.declared.refusal.Refusal.{Refusal}
use Rattle.wire.specs.Refusals.{refusal, plain, located_as, bind}
use Rattle.types.specs.Meanings.{Meaning, absent}
use Rattle.types.specs.Kinds.{Kind}
use Rattle.types.specs.Answers.{pattern_of}
use Rattle.schema.specs.Verdicts.{Verdict, fine, rule, ◌then◌}
use Rattle.message.specs.Blocks.{Slot, BlockView, is_absent, present}
use Rattle.message.specs.Frames.{GroupView, DataView, View, Contents, group_bytes, groups_bytes, part_bytes, contents_bytes}

-- a verdict and, where it finds nothing, an answer
infixr 40 ◌before◌
abbrev pub ◌before◌ : {X : Type 0} → Verdict → Result X Refusal → Result X Refusal
v before r = bind v (λ _. r)

-- ---- blanks

-- what the blank of a type means
abbrev pub blank_meaning : Option Kind → Meaning
blank_meaning None = absent
blank_meaning (Some k) = k.blank_means

-- a root or an entry whose fields are all blank
abbrev pub blank_entry : BlockView → List Meaning
blank_entry b = map (λ f. blank_meaning f.kind) b.slots

-- what a new message holds: every field blank, no entries, empty data
abbrev pub blank_contents : View → Contents
blank_contents v = record { root = blank_entry v.root; groups = map (λ _. []) v.groups; parts = map (λ _. []) v.parts }

-- ---- where something lies in the frame of the contents

-- there is no such group, entry or tag
abbrev pub lacking : {X : Type 0} → ℕ → Result X Refusal
lacking tag = Err (refusal reason.NotFound 0 tag)

-- a field, and the place of its bytes
pub record FieldSpot : Type 0 where
  pub place : ℕ
  pub slot : Slot

-- a group, the place where it begins, and its entries
pub record GroupSpot : Type 0 where
  pub place : ℕ
  pub group : GroupView
  pub entries : List (List Meaning)

-- a data, the place where it begins, and its content
pub record PartSpot : Type 0 where
  pub place : ℕ
  pub part : DataView
  pub content : List ℕ

-- the first field with the tag, of a block that begins at `base`
abbrev pub field_in : ℕ → List Slot → ℕ → Result FieldSpot Refusal
field_in base [] tag = lacking tag
field_in base (f ∷ fs) tag = cond (f.tag == tag) (Ok (record { place = base + f.offset; slot = f })) (field_in base fs tag)

-- the first group with the tag, of groups of which the first begins at p
abbrev pub group_in : ℕ → List GroupView → List (List (List Meaning)) → ℕ → Result GroupSpot Refusal
group_in p [] ess tag = lacking tag
group_in p (g ∷ gs) [] tag = lacking tag
group_in p (g ∷ gs) (es ∷ ess) tag = cond (g.tag == tag) (Ok (record { place = p; group = g; entries = es })) (group_in (p + length (group_bytes g es)) gs ess tag)

-- the first data with the tag, of data of which the first begins at p
abbrev pub part_in : ℕ → List DataView → List (List ℕ) → ℕ → Result PartSpot Refusal
part_in p [] xs tag = lacking tag
part_in p (d ∷ ds) [] tag = lacking tag
part_in p (d ∷ ds) (x ∷ xs) tag = cond (d.tag == tag) (Ok (record { place = p; part = d; content = x })) (part_in (p + length (part_bytes d x)) ds xs tag)

-- the field of an entry: behind the group's head and the entries before
abbrev pub field_of_entry : ℕ → ℕ → ℕ → GroupSpot → Result FieldSpot Refusal
field_of_entry group entry tag g =
    cond (nat_lt entry (length g.entries))
    (field_in (g.place + 3 + entry * g.group.block.size) g.group.block.slots tag)
    (lacking group)

module _ (v : View) (c : Contents) where
  -- a group of the contents
  abbrev pub group_spot : ℕ → Result GroupSpot Refusal
  group_spot tag = group_in (12 + v.root.size) v.groups c.groups tag

  -- a data of the contents
  abbrev pub part_spot : ℕ → Result PartSpot Refusal
  part_spot tag = part_in (12 + v.root.size + length (groups_bytes v.groups c.groups)) v.parts c.parts tag

  -- a field by group, entry and tag: the root is group 0, with the one entry 0
  abbrev pub field_spot : ℕ → ℕ → ℕ → Result FieldSpot Refusal
  field_spot group entry tag =
      cond (group == 0)
      (cond (entry == 0) (field_in 12 v.root.slots tag) (lacking 0))
      (bind (group_spot group) (field_of_entry group entry tag))

-- ---- contents with one thing changed

-- m in place of what the first field with the tag means
abbrev pub with_meaning : ℕ → Meaning → List Slot → List Meaning → List Meaning
with_meaning tag m [] ms = ms
with_meaning tag m (f ∷ fs) [] = []
with_meaning tag m (f ∷ fs) (x ∷ xs) = cond (f.tag == tag) (m ∷ xs) (x ∷ with_meaning tag m fs xs)

-- h of the element of a number
abbrev pub with_element : {X : Type 0} → (X → X) → ℕ → List X → List X
with_element h i [] = []
with_element h zero (x ∷ xs) = h x ∷ xs
with_element h (suc i) (x ∷ xs) = x ∷ with_element h i xs

-- h of the entries of the first group with the tag
abbrev pub with_entries : (GroupView → List (List Meaning) → List (List Meaning)) → ℕ → List GroupView → List (List (List Meaning)) → List (List (List Meaning))
with_entries h tag [] ess = ess
with_entries h tag (g ∷ gs) [] = []
with_entries h tag (g ∷ gs) (es ∷ ess) = cond (g.tag == tag) (h g es ∷ ess) (es ∷ with_entries h tag gs ess)

-- x in place of the first data with the tag
abbrev pub with_part : ℕ → List ℕ → List DataView → List (List ℕ) → List (List ℕ)
with_part tag x [] xs = xs
with_part tag x (d ∷ ds) [] = []
with_part tag x (d ∷ ds) (y ∷ ys) = cond (d.tag == tag) (x ∷ ys) (y ∷ with_part tag x ds ys)

-- one more entry, blank, at the end
abbrev pub one_more : GroupView → List (List Meaning) → List (List Meaning)
one_more g es = es ++ (blank_entry g.block ∷ [])

-- without the last entry
abbrev pub one_less : GroupView → List (List Meaning) → List (List Meaning)
one_less g es = take (length es - 1) es

module _ (v : View) (c : Contents) where
  -- m at a group, an entry and a tag
  abbrev pub with_field : ℕ → ℕ → ℕ → Meaning → Contents
  with_field group entry tag m =
      cond (group == 0)
      (record { root = with_meaning tag m v.root.slots c.root; groups = c.groups; parts = c.parts })
      (record { root = c.root; groups = with_entries (λ g es. with_element (with_meaning tag m g.block.slots) entry es) group v.groups c.groups; parts = c.parts })

  abbrev pub with_group : (GroupView → List (List Meaning) → List (List Meaning)) → ℕ → Contents
  with_group h group = record { root = c.root; groups = with_entries h group v.groups c.groups; parts = c.parts }

  abbrev pub with_data : ℕ → List ℕ → Contents
  with_data tag x = record { root = c.root; groups = c.groups; parts = with_part tag x v.parts c.parts }

-- ---- room

-- how many bytes the frame of the contents has
abbrev pub needed : View → Contents → ℕ
needed v c = 12 + length (contents_bytes v c)

-- the frame has room in a buffer of `room` bytes, and is no longer than a frame may be
abbrev pub fits : ℕ → View → Contents → Bool
fits room v c = nat_le (needed v c) (min room 16384)

abbrev pub with_room : ℕ → View → Contents → Result Contents Refusal
with_room room v c = rule (fits room v c) reason.NoRoom (needed v c) 0 before Ok c

-- ---- the calls that fill in a form

-- the pattern of a value: absent is none
abbrev pub pattern_of_value : Option Kind → Meaning → Result (List ℕ) Refusal
pattern_of_value k m = cond (is_absent m) (Err (plain reason.NoSuchValue)) (pattern_of k m)

-- at most 254 entries
abbrev pub has_room_for_entry : List (List Meaning) → Bool
has_room_for_entry es = nat_lt (length es) 254

module _ (room : ℕ) (v : View) (c : Contents) where
  abbrev pub set_field : ℕ → ℕ → ℕ → Meaning → Result Contents Refusal
  set_field group entry tag m =
      bind (field_spot v c group entry tag) (λ f.
      bind (located_as (pattern_of_value f.slot.kind m) f.place tag) (λ _.
      Ok (with_field v c group entry tag m)))

  abbrev pub clear_field : ℕ → ℕ → ℕ → Result Contents Refusal
  clear_field group entry tag =
      bind (field_spot v c group entry tag) (λ f.
      Ok (with_field v c group entry tag (blank_meaning f.slot.kind)))

  abbrev pub append_entry : ℕ → Result Contents Refusal
  append_entry group =
      bind (group_spot v c group) (λ g.
      rule (has_room_for_entry g.entries) reason.Full (g.place + 2) group
      before with_room room v (with_group v c one_more group))

  abbrev pub drop_entry : ℕ → Result Contents Refusal
  drop_entry group =
      bind (group_spot v c group) (λ g.
      rule (nat_lt 0 (length g.entries)) reason.NotFound 0 group
      before Ok (with_group v c one_less group))

  abbrev pub write_data : ℕ → List ℕ → Result Contents Refusal
  write_data tag x =
      bind (part_spot v c tag) (λ d.
      rule (nat_le (length x) d.part.longest) reason.Full d.place tag
      before with_room room v (with_data v c tag x))

-- ---- closing

-- the required fields of a block that begins at `base`, one after the other
abbrev pub fields_there : ℕ → List Slot → List Meaning → Verdict
fields_there base [] ms = fine
fields_there base (f ∷ fs) [] = fine
fields_there base (f ∷ fs) (m ∷ ms) = rule (present f.required m) reason.RequiredAbsent (base + f.offset) f.tag then fields_there base fs ms

-- entry by entry, the first at p
abbrev pub entries_there : ℕ → BlockView → List (List Meaning) → Verdict
entries_there p b [] = fine
entries_there p b (ms ∷ es) = fields_there p b.slots ms then entries_there (p + b.size) b es

-- group by group, the first at p
abbrev pub groups_there : ℕ → List GroupView → List (List (List Meaning)) → Verdict
groups_there p [] ess = fine
groups_there p (g ∷ gs) [] = fine
groups_there p (g ∷ gs) (es ∷ ess) = entries_there (p + 3) g.block es then groups_there (p + length (group_bytes g es)) gs ess

-- no required field is absent, in wire order; then the frame is no longer than a frame may be
abbrev pub closing_verdict : View → Contents → Verdict
closing_verdict v c =
    fields_there 12 v.root.slots c.root
    then groups_there (12 + v.root.size) v.groups c.groups
    then rule (nat_le (needed v c) 16384) reason.TooLong 0 0
