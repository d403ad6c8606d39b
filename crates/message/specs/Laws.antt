-- The laws of frames and messages. Assumes nothing.
use Rattle.std.specs.Prelude.{◌≡◌, ℕ, ◌≤◌, Bool, false, ◌⊎◌, List, [], ◌++◌, map, length, take, Some, None, Ok, Err, ◌≢◌}
use Rattle.std.specs.List.{AllByRecursion}
use Rattle.wire.specs.declared.refusal.Reason.TheVariants as reason
use Rattle.wire.specs.declared.refusal.Refusal.{Refusal}
use Rattle.wire.specs.Bytes.{Bytes}
use Rattle.wire.specs.Refusals.{refusal}
use Rattle.types.specs.Meanings.{absent}
use Rattle.types.specs.Kinds.{Known}
use Rattle.schema.specs.Verdicts.{fine}
use Rattle.schema.specs.Structure.{Template}
use Rattle.schema.specs.Geometry.{kind_of}
use Rattle.schema.specs.Reading.{dictionary_of}
use Rattle.schema.specs.Seen.{find, template_at}
use Rattle.schema.specs.Editions.{EarlierEdition}
use Rattle.schema.specs.Laws.{Checked}
use Rattle.message.specs.Messages.{Message, frame, verdict_when, frame_verdict, message_of, stated_template, stated_version, Stands, Closes}
use Rattle.message.specs.Lookup.{Reading, means, holds, not_found, frame_reading, message_reading}
use Rattle.message.specs.Fronts.{front_message}
use Rattle.message.specs.Walks.{Item, frame_items, LaidOut, filled_out, told_by, told_message}

-- Bytes are accepted exactly if they are the frame of a message that closes (not closed: of one that a form may hold), and then they read as that message.
pub record AcceptedExactlyAsAFrame (closed : Bool) (known : Known) (s bs : List ℕ) : Type 0 where
  -- what is accepted is the frame of what it reads as, and that stands
  pub stands : verdict_when closed known s bs ≡ fine → Stands closed known (dictionary_of s) (message_of known (dictionary_of s) bs)
  pub written_again : verdict_when closed known s bs ≡ fine → frame known (dictionary_of s) (message_of known (dictionary_of s) bs) ≡ bs
  -- a message's frame is accepted, and reads as it
  pub accepted : (m : Message) → Stands closed known (dictionary_of s) m → frame known (dictionary_of s) m ≡ bs → verdict_when closed known s bs ≡ fine
  pub read_back : (m : Message) → Stands closed known (dictionary_of s) m → frame known (dictionary_of s) m ≡ bs → message_of known (dictionary_of s) bs ≡ m
  -- what is refused is the frame of no message, and what is the frame of none is refused
  pub refused_is_none : (e : Refusal) → verdict_when closed known s bs ≡ Err e → (m : Message) → Stands closed known (dictionary_of s) m → frame known (dictionary_of s) m ≢ bs
  pub none_is_refused : ((m : Message) → Stands closed known (dictionary_of s) m → frame known (dictionary_of s) m ≢ bs) → (e : Refusal) × (verdict_when closed known s bs ≡ Err e)

-- The frame of a message is accepted, is bytes, and reads as the message; frames are equal exactly when messages are.
pub record FramesCarryMessages (closed : Bool) (known : Known) (s : List ℕ) : Type 0 where
  pub accepted : (m : Message) → Stands closed known (dictionary_of s) m → verdict_when closed known s (frame known (dictionary_of s) m) ≡ fine
  pub in_bytes : (m : Message) → Stands closed known (dictionary_of s) m → Bytes (frame known (dictionary_of s) m)
  pub read_back : (m : Message) → Stands closed known (dictionary_of s) m → message_of known (dictionary_of s) (frame known (dictionary_of s) m) ≡ m
  pub equal_frames : (m n : Message) → Stands closed known (dictionary_of s) m → Stands closed known (dictionary_of s) n → frame known (dictionary_of s) m ≡ frame known (dictionary_of s) n → m ≡ n
  pub equal_messages : (m n : Message) → m ≡ n → frame known (dictionary_of s) m ≡ frame known (dictionary_of s) n

-- An accepted frame, one newer than the dictionary too, reads at each group, entry and tag what its message has there.
abbrev pub ReadsAsItsMessage : Known → List ℕ → List ℕ → Type 0
ReadsAsItsMessage known s bs = (group entry tag : ℕ) → frame_reading known s bs group entry tag ≡ message_reading (dictionary_of s) (message_of known (dictionary_of s) bs) group entry tag

-- Two libraries know the same kinds for the types of a template's fields, of the root and of each group.
pub record SameKinds (known other : Known) (t : Template) : Type 0 where
  pub root : AllByRecursion (λ f. kind_of known f ≡ kind_of other f) t.root.fields
  pub groups : AllByRecursion (λ g. AllByRecursion (λ f. kind_of known f ≡ kind_of other f) g.block.fields) t.groups

-- They do so for a frame's template, as far as the frame's version shows it: lines that are newer may differ.
abbrev pub SameKindsFor : Known → Known → List ℕ → List ℕ → Type 0
SameKindsFor known other s bs = (t : Template) → template_at (dictionary_of s) (stated_template bs) (stated_version bs) ≡ Some t → SameKinds known other t

-- A library takes a frame as another one does: it accepts it, as the same message, and reads at each group, entry and tag what the message has there that the other one makes of it.
pub record TakenAsByAnother (closed : Bool) (known other : Known) (s bs : List ℕ) : Type 0 where
  pub accepted : verdict_when closed known s bs ≡ fine
  pub same_message : message_of known (dictionary_of s) bs ≡ message_of other (dictionary_of s) bs
  pub reads : (group entry tag : ℕ) → frame_reading known s bs group entry tag ≡ message_reading (dictionary_of s) (message_of other (dictionary_of s) bs) group entry tag

-- The walk of an accepted frame is not refused; its items follow one another behind the header, each where it says it is, and with the bytes between them they make up the frame; they tell all that the message holds, in its order, and no more.
pub record WalkedThrough (known : Known) (s bs : List ℕ) : Type 0 where
  pub items : List Item
  pub walked : frame_items known s bs ≡ Ok items
  pub laid_out : LaidOut bs 12 (length bs) items
  pub made_up : filled_out bs 0 items ≡ bs
  pub tells_all : map (told_by known) items ≡ told_message (dictionary_of s) (message_of known (dictionary_of s) bs)

-- A buffer's front is taken for a message exactly if it is its frame.
pub record FrontsAreFrames (known : Known) (s : List ℕ) : Type 0 where
  -- what is found stands, and the buffer begins with its frame
  pub stands : (number version n : ℕ) (buffer : List ℕ) → Bytes buffer → (m : Message) → front_message known s number version n buffer ≡ Some m → Stands false known (dictionary_of s) m
  pub begins : (number version n : ℕ) (buffer : List ℕ) → Bytes buffer → (m : Message) → front_message known s number version n buffer ≡ Some m → frame known (dictionary_of s) m ≡ take n buffer
  pub fits : (number version n : ℕ) (buffer : List ℕ) → Bytes buffer → (m : Message) → front_message known s number version n buffer ≡ Some m → ((m.template ≡ number) × (m.version ≡ version)) × (length (frame known (dictionary_of s) m) ≡ n)
  -- a message's frame in front of any bytes is found
  pub found : (m : Message) (rest : List ℕ) → Stands false known (dictionary_of s) m → front_message known s m.template m.version (length (frame known (dictionary_of s) m)) (frame known (dictionary_of s) m ++ rest) ≡ Some m

-- What a dictionary that passes the check, a lawful library and bytes have to do with messages: for frames of messages that close and, not closed, of those that a form may hold.
pub record FramesAreMessages (known : Known) : Type 0 where
  -- up to the dictionary's version
  pub accepted_exactly : (closed : Bool) (s : List ℕ) → Checked known s → (bs : List ℕ) → Bytes bs → stated_version bs ≤ (dictionary_of s).version → AcceptedExactlyAsAFrame closed known s bs
  pub carried : (closed : Bool) (s : List ℕ) → Checked known s → FramesCarryMessages closed known s
  pub fronts : (s : List ℕ) → Checked known s → FrontsAreFrames known s
  -- at any version
  pub reads : (closed : Bool) (s : List ℕ) → Checked known s → (bs : List ℕ) → verdict_when closed known s bs ≡ fine → ReadsAsItsMessage known s bs
  -- any other library may have accepted the frame, if the two know the same kinds for it
  pub another : (closed : Bool) (s : List ℕ) → Checked known s → (other : Known) (bs : List ℕ) → verdict_when closed other s bs ≡ fine → SameKindsFor known other s bs → TakenAsByAnother closed known other s bs
  pub walked : (closed : Bool) (s : List ℕ) → Checked known s → (bs : List ℕ) → verdict_when closed known s bs ≡ fine → WalkedThrough known s bs

-- What a reader makes of the frame of a message that closes under a writer's dictionary.
pub record ReadAcross (known : Known) (writer reader : List ℕ) (m : Message) : Type 0 where
  -- refused where it has no such template at the message's version
  pub lacking : template_at (dictionary_of reader) m.template m.version ≡ None → frame_verdict known reader (frame known (dictionary_of writer) m) ≡ Err (refusal reason.UnknownTemplate 6 0)
  -- else accepted; and at each group, entry and tag it reads what the message has there, by the reader's lines: absent or nothing where the message has no such line
  pub accepted : (t : Template) → template_at (dictionary_of reader) m.template m.version ≡ Some t → frame_verdict known reader (frame known (dictionary_of writer) m) ≡ fine
  pub reads : (t : Template) → template_at (dictionary_of reader) m.template m.version ≡ Some t → (group entry tag : ℕ) → frame_reading known reader (frame known (dictionary_of writer) m) group entry tag ≡ message_reading (dictionary_of reader) m group entry tag

-- An earlier edition and a later one read each other's frames.
pub record EditionsReadOneAnother (known : Known) (earlier later : List ℕ) : Type 0 where
  pub later_reads : (m : Message) → Closes known (dictionary_of earlier) m → ReadAcross known earlier later m
  pub earlier_reads : (m : Message) → Closes known (dictionary_of later) m → ReadAcross known later earlier m

-- nothing is there: absent, or a data without bytes
abbrev pub NothingIn : Reading → Type 0
NothingIn (means m) = m ≡ absent
NothingIn (holds x) = x ≡ []

-- Two editions' lines say the same of a message.
pub record EditionsSayTheSame (known : Known) (earlier later : List ℕ) : Type 0 where
  -- what the earlier one's lines read of a message of a template that it has, the later one's read too
  pub later_says_it : (m : Message) (t : Template) → find m.template (dictionary_of earlier).templates ≡ Some t → (group entry tag : ℕ) (r : Reading) → message_reading (dictionary_of earlier) m group entry tag ≡ Ok r → message_reading (dictionary_of later) m group entry tag ≡ Ok r
  -- of a message that closes under the earlier one, the later one's lines read what the earlier one's read; a line that only the later one has reads as absent, or as a data without bytes
  pub nothing_more : (m : Message) → Closes known (dictionary_of earlier) m → (group entry tag : ℕ) (r : Reading) → message_reading (dictionary_of later) m group entry tag ≡ Ok r → (message_reading (dictionary_of earlier) m group entry tag ≡ Ok r) ⊎ ((message_reading (dictionary_of earlier) m group entry tag ≡ not_found tag) × NothingIn r)

-- Frames under an earlier and a later edition that both pass the check.
pub record EditionsShareFrames (known : Known) : Type 0 where
  pub read_one_another : (earlier later : List ℕ) → Checked known earlier → Checked known later → EarlierEdition (dictionary_of earlier) (dictionary_of later) → EditionsReadOneAnother known earlier later
  pub say_the_same : (earlier later : List ℕ) → Checked known earlier → Checked known later → EarlierEdition (dictionary_of earlier) (dictionary_of later) → EditionsSayTheSame known earlier later
