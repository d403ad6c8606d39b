-- What each call does to a message, said of what the message has by group, entry and tag. Assumes nothing.
use Rattle.std.specs.Prelude.{◌≡◌, ℕ, zero, suc, false, cond, List, [], ◌∷◌, ◌++◌, map, length, Some, None, Ok, Option, ◌==◌, ◌≢◌}
use Rattle.std.specs.List.{AllByRecursion}
use Rattle.wire.specs.declared.refusal.Refusal.{Refusal}
use Rattle.types.specs.Meanings.{Meaning}
use Rattle.types.specs.Kinds.{Kind, Known}
use Rattle.schema.specs.Structure.{Template}
use Rattle.schema.specs.Reading.{dictionary_of}
use Rattle.schema.specs.Seen.{template_at}
use Rattle.message.specs.Blocks.{Slot, BlockView}
use Rattle.message.specs.Frames.{GroupView, View, Contents, Holds}
use Rattle.message.specs.Messages.{Message, view_of}
use Rattle.calls.specs.Changes.{blank_meaning, blank_entry, set_field, clear_field, append_entry, drop_entry, write_data}
use Rattle.calls.specs.Calls.{Form, opened, closed, close, reopen, Numbers, by_messages, opening, closing, reopening, becomes, refuses, asked, refused, answer_of, form_after, buffer_after, message_after}

-- ---- what contents have

-- what the first line with the tag has, of lines beside what they have
abbrev pub had : {L X : Type 0} → (L → ℕ) → List L → List X → ℕ → Option X
had tag_of [] xs tag = None
had tag_of (l ∷ ls) [] tag = None
had tag_of (l ∷ ls) (x ∷ xs) tag = cond (tag_of l == tag) (Some x) (had tag_of ls xs tag)

-- the entry of a number, then the tag
abbrev pub meaning_in_entries : List Slot → List (List Meaning) → ℕ → ℕ → Option Meaning
meaning_in_entries fs [] entry tag = None
meaning_in_entries fs (ms ∷ es) zero tag = had (λ f. f.tag) fs ms tag
meaning_in_entries fs (ms ∷ es) (suc entry) tag = meaning_in_entries fs es entry tag

-- the first group with the tag, then the entry and the tag
abbrev pub meaning_in_groups : List GroupView → List (List (List Meaning)) → ℕ → ℕ → ℕ → Option Meaning
meaning_in_groups [] ess group entry tag = None
meaning_in_groups (g ∷ gs) [] group entry tag = None
meaning_in_groups (g ∷ gs) (es ∷ ess) group entry tag = cond (g.tag == group) (meaning_in_entries g.block.slots es entry tag) (meaning_in_groups gs ess group entry tag)

-- what a field means by group, entry and tag: the root is group 0, with the one entry 0
abbrev pub meaning_in : View → Contents → ℕ → ℕ → ℕ → Option Meaning
meaning_in v c group entry tag =
    cond (group == 0)
    (cond (entry == 0) (had (λ f. f.tag) v.root.slots c.root tag) None)
    (meaning_in_groups v.groups c.groups group entry tag)

-- the entries of the first group with the tag
abbrev pub entries_in : View → Contents → ℕ → Option (List (List Meaning))
entries_in v c group = had (λ g. g.tag) v.groups c.groups group

-- the bytes of the first data with the tag
abbrev pub bytes_in : View → Contents → ℕ → Option (List ℕ)
bytes_in v c tag = had (λ d. d.tag) v.parts c.parts tag

-- ---- what the template has

-- the type of the first field with the tag
abbrev pub kind_by : List Slot → ℕ → Option (Option Kind)
kind_by [] tag = None
kind_by (f ∷ fs) tag = cond (f.tag == tag) (Some f.kind) (kind_by fs tag)

-- the block of the entries of the first group with the tag
abbrev pub block_in : List GroupView → ℕ → Option BlockView
block_in [] group = None
block_in (g ∷ gs) group = cond (g.tag == group) (Some g.block) (block_in gs group)

abbrev pub kind_in_block : Option BlockView → ℕ → Option (Option Kind)
kind_in_block None tag = None
kind_in_block (Some b) tag = kind_by b.slots tag

-- the type of a field by group and tag
abbrev pub kind_in : View → ℕ → ℕ → Option (Option Kind)
kind_in v group tag = cond (group == 0) (kind_by v.root.slots tag) (kind_in_block (block_in v.groups group) tag)

-- ---- what the calls that fill in a form do

-- but for what one field means, contents are those of before: what every other field means, the number of entries of each group, the data
pub record AlikeButFor (v : View) (c c' : Contents) (group entry tag : ℕ) : Type 0 where
  pub others : (group' entry' tag' : ℕ) → (group' ≡ group → entry' ≡ entry → tag' ≢ tag) → meaning_in v c' group' entry' tag' ≡ meaning_in v c group' entry' tag'
  pub counts : map length c'.groups ≡ map length c.groups
  pub parts : c'.parts ≡ c.parts

-- the field means m, and nothing else differs
pub record Sets (v : View) (c c' : Contents) (group entry tag : ℕ) (m : Meaning) : Type 0 where
  pub has : meaning_in v c' group entry tag ≡ Some m
  pub else_alike : AlikeButFor v c c' group entry tag

-- the field means what the blank of its type means, and nothing else differs
pub record Clears (v : View) (c c' : Contents) (group entry tag : ℕ) : Type 0 where
  pub kind : Option Kind
  pub of_kind : kind_in v group tag ≡ Some kind
  pub sets : Sets v c c' group entry tag (blank_meaning kind)

-- the data has the bytes, and nothing else differs
pub record Writes (v : View) (c c' : Contents) (tag : ℕ) (x : List ℕ) : Type 0 where
  pub has : bytes_in v c' tag ≡ Some x
  pub others : (tag' : ℕ) → (tag' ≢ tag) → bytes_in v c' tag' ≡ bytes_in v c tag'
  pub root : c'.root ≡ c.root
  pub groups : c'.groups ≡ c.groups

-- but for the entries of one group, contents are those of before: the entries of every other group, the root, the data
pub record AlikeButForGroup (v : View) (c c' : Contents) (group : ℕ) : Type 0 where
  pub others : (group' : ℕ) → (group' ≢ group) → entries_in v c' group' ≡ entries_in v c group'
  pub root : c'.root ≡ c.root
  pub parts : c'.parts ≡ c.parts

-- the group has its entries and behind them one more, which is blank; nothing else differs; and dropping that leaves what was before
pub record Appends (room : ℕ) (v : View) (c c' : Contents) (group : ℕ) : Type 0 where
  pub block : BlockView
  pub of_block : block_in v.groups group ≡ Some block
  pub entries : List (List Meaning)
  pub had_before : entries_in v c group ≡ Some entries
  pub has : entries_in v c' group ≡ Some (entries ++ (blank_entry block ∷ []))
  pub blank : (tag : ℕ) (k : Option Kind) → kind_by block.slots tag ≡ Some k → had (λ f. f.tag) block.slots (blank_entry block) tag ≡ Some (blank_meaning k)
  pub else_alike : AlikeButForGroup v c c' group
  pub dropped_again : drop_entry room v c' group ≡ Ok c

-- the group had a last entry, and has the others; nothing else differs
pub record Drops (v : View) (c c' : Contents) (group : ℕ) : Type 0 where
  pub entries : List (List Meaning)
  pub last : List Meaning
  pub had_before : entries_in v c group ≡ Some (entries ++ (last ∷ []))
  pub has : entries_in v c' group ≡ Some entries
  pub else_alike : AlikeButForGroup v c c' group

-- What the calls that fill in a form do to contents that a message of the template may hold, where they are not refused.
pub record FillsMeanWhatTheySay (room : ℕ) (v : View) (c : Contents) : Type 0 where
  pub set : (group entry tag : ℕ) (m : Meaning) (c' : Contents) → set_field room v c group entry tag m ≡ Ok c' → Sets v c c' group entry tag m
  pub clear : (group entry tag : ℕ) (c' : Contents) → clear_field room v c group entry tag ≡ Ok c' → Clears v c c' group entry tag
  pub append : (group : ℕ) (c' : Contents) → append_entry room v c group ≡ Ok c' → Appends room v c c' group
  pub remove : (group : ℕ) (c' : Contents) → drop_entry room v c group ≡ Ok c' → Drops v c c' group
  pub write : (tag : ℕ) (x : List ℕ) (c' : Contents) → write_data room v c tag x ≡ Ok c' → Writes v c c' tag x

-- ---- opening, closing and reopening

-- a blank message has only blanks: each root field means what the blank of its type means, each group has no entries, each data no bytes
pub record BlankThroughout (v : View) (c : Contents) : Type 0 where
  pub root : (tag : ℕ) (k : Option Kind) → kind_in v 0 tag ≡ Some k → meaning_in v c 0 0 tag ≡ Some (blank_meaning k)
  pub groups : (group : ℕ) (b : BlockView) → block_in v.groups group ≡ Some b → entries_in v c group ≡ Some []
  pub parts : AllByRecursion (λ d. bytes_in v c d.tag ≡ Some []) v.parts

-- under the library `known` and the dictionary that the bytes s are
module _ (known : Known) (s : List ℕ) where
  -- an opened message is of the template and the version that were asked for, and blank
  pub record Opens (template version : ℕ) (m : Message) : Type 0 where
    pub template_asked : m.template ≡ template
    pub version_asked : m.version ≡ version
    pub line : Template
    pub found : template_at (dictionary_of s) template version ≡ Some line
    pub blank : BlankThroughout (view_of known line) m.contents

  -- closing leaves the message, and reopening then is not refused and leaves it too
  pub record ClosesAndReopens (m m' : Message) : Type 0 where
    pub same : m' ≡ m
    pub reopened : reopening known s by_messages m' ≡ Ok m

  -- the same of forms: an open form that is closed is a closed form of its message, and that can be reopened
  pub record ClosedAndReopened (room : ℕ) (m : Message) (st : Form Message) : Type 0 where
    pub same : st ≡ closed m
    pub in_turn : asked known s by_messages room st reopen ≡ becomes (opened m)

  -- a call that is refused says so, and leaves the form and the buffer
  pub record RefusalLeavesAll (st : Form Message) (n : Form Numbers) (buffer : List ℕ) (e : Refusal) : Type 0 where
    pub says : answer_of {A = Form Message} (refuses e) ≡ refused e
    pub message_left : message_after st (refuses e) ≡ st
    pub form_left : form_after known (dictionary_of s) n (refuses e) ≡ n
    pub buffer_left : buffer_after known (dictionary_of s) buffer (refuses e) ≡ buffer

  pub record FormsMeanWhatTheySay : Type 0 where
    pub opens : (room template version : ℕ) (m : Message) → opening known s room template version ≡ Ok m → Opens template version m
    pub closes : (m m' : Message) → closing known s by_messages m ≡ Ok m' → ClosesAndReopens m m'
    pub reopens : (m m' : Message) → reopening known s by_messages m ≡ Ok m' → m' ≡ m
    pub close_and_reopen : (room : ℕ) (m : Message) (st : Form Message) → asked known s by_messages room (opened m) close ≡ becomes st → ClosedAndReopened room m st
    pub refusal : (st : Form Message) (n : Form Numbers) (buffer : List ℕ) (e : Refusal) → RefusalLeavesAll st n buffer e

-- ---- all of it

pub record EveryCallMeansWhatItSays : Type 0 where
  pub fills : (room : ℕ) (v : View) (c : Contents) → Holds false v c → FillsMeanWhatTheySay room v c
  pub forms : (known : Known) (s : List ℕ) → FormsMeanWhatTheySay known s
