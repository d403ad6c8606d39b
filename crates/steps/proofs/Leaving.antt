-- What a call leaves that puts other contents in place of a message's: their frame, where it has room.
use Rattle.std.proofs.Common.{◌≡◌, ℕ, ◌≤◌, min, leb, List, ◌++◌, length, drop, Ok, sym, refl, ap, ◌∙◌, ⊎_elim, arith}
use Rattle.std.proofs.lemmas.Bool.Decides.{leb_tells}
use Rattle.wire.specs.declared.refusal.Reason.TheVariants as reason
use Rattle.wire.specs.Numbers.{le_bytes}
use Rattle.wire.specs.Refusals.{bind}
use Rattle.types.specs.Kinds.{Known}
use Rattle.schema.specs.Verdicts.{rule}
use Rattle.schema.specs.Sections.{Section}
use Rattle.schema.specs.Reading.{template_of, schema_of, dictionary_of}
use Rattle.schema.specs.Seen.{block_length}
use Rattle.message.specs.Frames.{Contents, contents_bytes}
use Rattle.message.specs.Messages.{Message}
use Rattle.calls.specs.Changes.{◌before◌, needed, with_room}
use Rattle.calls.specs.Calls.{Numbers}
use Rattle.steps.specs.Steps.{has_room, after, left_of}
use Rattle.steps.proofs.Fronts.{form_view, form_header, with_contents, HeldFront, buffer_is, left_changed}

-- the header of a form's frame behind its length
abbrev pub header_end : List ℕ → Numbers → Section → List ℕ
header_end s n t = le_bytes 2 0xEB50 ++ (le_bytes 2 (block_length n.version (template_of t).root) ++ (le_bytes 2 n.template ++ (le_bytes 2 (schema_of s) ++ le_bytes 2 n.version)))

module _ (known : Known) (s buffer : List ℕ) (n : Numbers) (t : Section) (m : Message) (h : HeldFront known s buffer n t m) where
  -- the buffer, by the bytes of the contents and of what stands behind the frame
  pub buffer_by : (body : List ℕ) → contents_bytes (form_view known n t) m.contents ++ drop n.length buffer ≡ body → buffer ≡ (le_bytes 2 n.length ++ header_end s n t) ++ body
  buffer_by body e = buffer_is known s buffer n t m h ∙ ap (λ y. form_header s n t n.length ++ y) e

  -- what other contents leave, by how many bytes they need and the bytes behind the header
  pub left_by : (need : ℕ) (c : Contents) (body left : List ℕ) → needed (form_view known n t) c ≡ need → contents_bytes (form_view known n t) c ++ drop need buffer ≡ body → left ≡ (le_bytes 2 need ++ header_end s n t) ++ body →
      left_of known (dictionary_of s) buffer (with_contents m c) ≡ record { length = need; bytes = left }
  left_by need c body left e b l =
      left_changed known s buffer n t m h c need left e (ap (λ y. form_header s n t need ++ y) b ∙ sym l)

  -- the same where it is asked whether they have room
  pub room_left : (need : ℕ) (c : Contents) (left : List ℕ) → needed (form_view known n t) c ≡ need →
      (need ≤ length buffer → left_of known (dictionary_of s) buffer (with_contents m c) ≡ record { length = need; bytes = left }) →
      after known (dictionary_of s) buffer (bind (with_room (length buffer) (form_view known n t) c) (λ x. Ok (with_contents m x)))
      ≡ (has_room need (length buffer) before Ok (record { length = need; bytes = left }))
  room_left need c left e k =
      ap (λ w. after known (dictionary_of s) buffer (bind (rule (leb w (min (length buffer) 16384)) reason.NoRoom w 0 before Ok c) (λ x. Ok (with_contents m x)))) e
      ∙ ⊎_elim
      (λ a. let l = a.1 in let same = k (omega arith) in rw a.0 (ap Ok same))
      (λ a. rw a.0 refl)
      (leb_tells need (min (length buffer) 16384))
