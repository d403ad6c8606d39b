-- What a call on a form goes by: the message that the buffer begins with, where it stands, and what other contents of it leave of the buffer.
use Rattle.std.proofs.Common.{◌≡◌, ℕ, ◌+◌, ◌-◌, ◌≤◌, Bool, true, false, cond, ◌&&◌, leb, List, [], ◌∷◌, ◌++◌, length, take, drop, Some, None, Ok, Err, Option, Result, sym, refl, ap, ◌∙◌, subst, ap₂, append_assoc, arith, length-append, take-append-drop}
use Rattle.std.specs.List.{AllByRecursion}
use Rattle.std.proofs.lemmas.Bool.{le-leb, and_from}
use Rattle.wire.specs.declared.refusal.Reason.TheVariants as reason
use Rattle.wire.specs.declared.refusal.Refusal.{Refusal}
use Rattle.wire.specs.Bytes.{Bytes}
use Rattle.wire.specs.Numbers.{le_bytes}
use Rattle.wire.specs.Refusals.{refusal, bind}
use Rattle.moves.specs.Moves.{patched, shifted}
use Rattle.moves.proofs.Patches.{patched_front, patched_behind}
use Rattle.types.specs.Kinds.{Known, AllLawful}
use Rattle.schema.specs.Verdicts.{Verdict, fine}
use Rattle.schema.specs.Sections.{Section}
use Rattle.schema.specs.Structure.{Template}
use Rattle.schema.specs.Geometry.{section_geometry}
use Rattle.schema.specs.Reading.{template_of, schema_of, version_of, sections_of, dictionary_of}
use Rattle.schema.specs.Seen.{block_length, seen_template, template_at}
use Rattle.schema.specs.Finding.{PlacedSection, section_at}
use Rattle.message.specs.Blocks.{Slot}
use Rattle.message.specs.Frames.{GroupView, View, Contents, contents_bytes, Holds}
use Rattle.message.specs.Messages.{Message, view_of, header, frame_by, frame, geometry_of, is_there}
use Rattle.message.specs.Fronts.{front_message}
use Rattle.message.proofs.Views.{SoundView}
use Rattle.message.proofs.Found.{seen_in, template_in_section}
use Rattle.calls.specs.Changes.{◌before◌, needed}
use Rattle.calls.specs.Calls.{Fill, Numbers, by_buffer, or_not_this_form, filled_by, worked_on, filling, laid}
use Rattle.calls.proofs.Sound as sound
use Rattle.calls.proofs.Splits.{SplitFrom, LawfulSlots, LawfulView}
use Rattle.calls.proofs.AnyFront.{AnyFront, any_front}
use Rattle.calls.proofs.Worked.{before_there, before_rule}
use Rattle.calls.proofs.Closing.{needs_all}
use Rattle.places.specs.Spots.{PlacesAreSpots}
use Rattle.places.proofs.Spots.{places_are_spots}
use Rattle.steps.specs.Steps.{Left, patched_in, shifted_in, not_this_form, working_by, working, left_of, after}

-- ---- lawful fields, as a front and as a change of contents say it

slots_lawful : (fs : List Slot) → sound.LawfulSlots fs → LawfulSlots fs
slots_lawful [] h = tt
slots_lawful (f ∷ fs) h = (record { kind = h.0.kind; is = h.0.is; lawful = h.0.laws }, slots_lawful fs h.1)

groups_lawful : (gs : List GroupView) → AllByRecursion (λ g. sound.LawfulSlots g.block.slots) gs → AllByRecursion (λ g. LawfulSlots g.block.slots) gs
groups_lawful [] h = tt
groups_lawful (g ∷ gs) h = (slots_lawful g.block.slots h.0, groups_lawful gs h.1)

pub view_lawful : (v : View) → sound.LawfulView v → LawfulView v
view_lawful v h = record { root = slots_lawful v.root.slots h.root; groups = groups_lawful v.groups h.groups }

-- ---- the form that a buffer begins with

-- the template of a section as a form sees it
abbrev pub form_view : Known → Numbers → Section → View
form_view known n t = view_of known (seen_template n.version (template_of t))

-- the header of a form's frame of `whole` bytes
abbrev pub form_header : List ℕ → Numbers → Section → ℕ → List ℕ
form_header s n t whole = header whole (block_length n.version (template_of t).root) n.template (schema_of s) n.version

-- a header has twelve bytes
pub header_long : (whole size number schema version : ℕ) (bs : List ℕ) → length (header whole size number schema version ++ bs) ≡ 12 + length bs
header_long whole size number schema version bs = omega arith

-- a message with other contents
abbrev pub with_contents : Message → Contents → Message
with_contents m c = record { template = m.template; version = m.version; contents = c }

-- the first bytes of a buffer are the frame of m, a message of the template that the section t is
pub record HeldFront (known : Known) (s buffer : List ℕ) (n : Numbers) (t : Section) (m : Message) : Type 0 where
  pub is_front : front_message known s n.template n.version n.length buffer ≡ Some m
  -- the template
  pub found : template_at (dictionary_of s) n.template n.version ≡ Some (seen_template n.version (template_of t))
  pub sound : SoundView (form_view known n t)
  pub slots : LawfulView (form_view known n t)
  -- the message
  pub number_is : m.template ≡ n.template
  pub version_is : m.version ≡ n.version
  pub right : Holds false (form_view known n t) m.contents
  -- its frame
  pub long : n.length ≤ length buffer
  pub least : 12 ≤ n.length
  pub most : n.length ≤ 16384
  pub front : frame known (dictionary_of s) m ≡ take n.length buffer
  pub frame_long : length (frame known (dictionary_of s) m) ≡ n.length
  pub body : drop 12 (take n.length buffer) ≡ contents_bytes (form_view known n t) m.contents
  pub needs : needed (form_view known n t) m.contents ≡ n.length
  -- where its fields, groups and data lie
  pub places : PlacesAreSpots known n.version (take n.length buffer) (template_of t) m.contents
  pub all : AnyFront known s n.template n.version n.length buffer m

module _ (known : Known) (s buffer : List ℕ) (n : Numbers) where
  -- ---- the section that is worked by, and the message that is worked on

  by_geometry : (g : Verdict) (o : Option Message) (t : Section) → (g before or_not_this_form o) ≡ bind (g before cond (is_there o) (Ok t) not_this_form) (λ _. or_not_this_form o)
  by_geometry (Err e) o t = refl
  by_geometry (Ok x) None t = refl
  by_geometry (Ok x) (Some m) t = refl

  by_section : (b : Bool) (o : Option PlacedSection) →
      (cond (b && is_there (seen_in n.version o)) fine (Err (refusal reason.NotThisForm 0 0))
      before geometry_of known (version_of s) o
      before or_not_this_form (front_message known s n.template n.version n.length buffer))
      ≡ bind (cond b fine (Err (refusal reason.NotThisForm 0 0)) before working_by known s buffer n o) (λ _. or_not_this_form (front_message known s n.template n.version n.length buffer))
  by_section false o = refl
  by_section true None = refl
  by_section true (Some t) = by_geometry (section_geometry known (version_of s) t.place t.section) (front_message known s n.template n.version n.length buffer) t.section

  -- a message is worked on where there is a section to work by
  pub working_worked : worked_on known s (by_buffer known s buffer) n ≡ bind (working known s buffer n) (λ _. or_not_this_form (front_message known s n.template n.version n.length buffer))
  working_worked =
      ap (λ o. cond (leb n.version (version_of s) && is_there o) fine (Err (refusal reason.NotThisForm 0 0))
      before geometry_of known (version_of s) (section_at n.template n.version 7 (sections_of s))
      before or_not_this_form (front_message known s n.template n.version n.length buffer)) (template_in_section s n.template n.version)
      ∙ by_section (leb n.version (version_of s)) (section_at n.template n.version 7 (sections_of s))

  module _ (lawful : AllLawful known) (y : Bytes buffer) where
    held_by : (t : Section) (m : Message) → front_message known s n.template n.version n.length buffer ≡ Some m → (f : AnyFront known s n.template n.version n.length buffer m) → f.template ≡ seen_template n.version (template_of t) → HeldFront known s buffer n t m
    held_by t m e f is =
        let v : view_of known f.template ≡ form_view known n t = ap (view_of known) is in
        let sound = subst SoundView v f.sound in
        let right = subst (λ w. Holds false w m.contents) v f.right in
        let body = f.body ∙ ap (λ w. contents_bytes w m.contents) v in
        record {
          is_front = e;
          found = f.found ∙ ap Some is;
          sound = sound;
          slots = subst LawfulView v (view_lawful (view_of known f.template) f.slots);
          number_is = f.number_is;
          version_is = f.version_is;
          right = right;
          long = f.long;
          least = f.least;
          most = f.most;
          front = f.front;
          frame_long = f.frame_long;
          body = body;
          needs = ap (λ w. needed w m.contents) (sym v) ∙ needs_all known s n.template n.version n.length buffer m f;
          places = places_are_spots known n.version (take n.length buffer) (template_of t) m.contents sound right body;
          all = f;
        }

    -- a section to work by, and the message that the buffer begins with
    pub record Held (t : Section) : Type 0 where
      pub message : Message
      pub held : HeldFront known s buffer n t message

    held_there : (x : PlacedSection) (t : Section) (o : Option Message) → section_at n.template n.version 7 (sections_of s) ≡ Some x → front_message known s n.template n.version n.length buffer ≡ o → cond (is_there o) (Ok x.section) not_this_form ≡ Ok t → Held t
    held_there x t None at e h = let z : ◌≡◌ {A = ℕ} 0 1 = cc in absurd (omega arith)
    held_there x t (Some m) at e h =
        let f = any_front known lawful s n.template n.version n.length buffer y m e in
        let w = f.section_is in
        let same : f.section ≡ x = cc in
        let is : x.section ≡ t = cc in
        record { message = m; held = held_by t m e f (f.template_is ∙ ap (λ q. seen_template n.version (template_of q.section)) same ∙ ap (λ q. seen_template n.version (template_of q)) is) }

    held_in : (o : Option PlacedSection) (t : Section) → section_at n.template n.version 7 (sections_of s) ≡ o → working_by known s buffer n o ≡ Ok t → Held t
    held_in None t at h = let z : ◌≡◌ {A = ℕ} 0 1 = cc in absurd (omega arith)
    held_in (Some x) t at h =
        let g = before_there (section_geometry known (version_of s) x.place x.section) _ t h in
        held_there x t (front_message known s n.template n.version n.length buffer) at refl g.1

    -- where there is a section to work by, the buffer begins with a message of its template
    pub working_held : (t : Section) → working known s buffer n ≡ Ok t → Held t
    working_held t e =
        let a = before_rule (leb n.version (version_of s)) (refusal reason.NotThisForm 0 0) (working_by known s buffer n (section_at n.template n.version 7 (sections_of s))) t e in
        held_in (section_at n.template n.version 7 (sections_of s)) t refl a.1

    -- ---- a call is what is done by the section

    module _ {X : Type 0} (told : Result Message Refusal → Result X Refusal) (on : Message → Option Template → Result Message Refusal) (step : Section → Result X Refusal) where
      answered : (w : Result Section Refusal) → working known s buffer n ≡ w → ((e : Refusal) → told (Err e) ≡ Err e) →
          ((t : Section) (m : Message) → HeldFront known s buffer n t m → told (on m (Some (seen_template n.version (template_of t)))) ≡ step t) →
          told (bind (worked_on known s (by_buffer known s buffer) n) (λ m. on m (template_at (dictionary_of s) n.template n.version))) ≡ bind w step
      answered (Err e) is refused held =
          let none : worked_on known s (by_buffer known s buffer) n ≡ Err e = working_worked ∙ ap (λ w. bind w (λ _. or_not_this_form (front_message known s n.template n.version n.length buffer))) is in
          ap (λ w. told (bind w (λ m. on m (template_at (dictionary_of s) n.template n.version)))) none ∙ refused e
      answered (Ok t) is refused held =
          let h = working_held t is in
          let some : worked_on known s (by_buffer known s buffer) n ≡ Ok h.message = working_worked ∙ ap (λ w. bind w (λ _. or_not_this_form (front_message known s n.template n.version n.length buffer))) is ∙ ap or_not_this_form h.held.is_front in
          ap (λ w. told (bind w (λ m. on m (template_at (dictionary_of s) n.template n.version)))) some
          ∙ ap (λ o. told (on h.message o)) h.held.found
          ∙ held t h.message h.held

      -- what is told of a call on the message that is worked on, where there is a section to work by; `told` leaves a refusal as it is
      pub told_of_call : ((e : Refusal) → told (Err e) ≡ Err e) →
          ((t : Section) (m : Message) → HeldFront known s buffer n t m → told (on m (Some (seen_template n.version (template_of t)))) ≡ step t) →
          told (bind (worked_on known s (by_buffer known s buffer) n) (λ m. on m (template_at (dictionary_of s) n.template n.version))) ≡ bind (working known s buffer n) step
      told_of_call refused held = answered (working known s buffer n) refl refused held

    -- what a call that fills in leaves, where it is so of each message that the buffer can begin with
    pub step_of_call : (k : Fill) (step : Section → Result Left Refusal) →
        ((t : Section) (m : Message) → HeldFront known s buffer n t m → after known (dictionary_of s) buffer (filled_by known (length buffer) k m (Some (seen_template n.version (template_of t)))) ≡ step t) →
        after known (dictionary_of s) buffer (filling known s (by_buffer known s buffer) (length buffer) n k) ≡ bind (working known s buffer n) step
    step_of_call k step held = told_of_call (after known (dictionary_of s) buffer) (filled_by known (length buffer) k) step (λ e. refl) held

  -- ---- other contents of the message

  module _ (t : Section) (m : Message) (h : HeldFront known s buffer n t m) where
    -- the frame of other contents: the header states another length
    pub frame_changed : (c : Contents) → frame known (dictionary_of s) (with_contents m c) ≡ form_header s n t (needed (form_view known n t) c) ++ contents_bytes (form_view known n t) c
    frame_changed c =
        let at : template_at (dictionary_of s) m.template m.version ≡ Some (seen_template n.version (template_of t)) = ap₂ (template_at (dictionary_of s)) h.number_is h.version_is ∙ h.found in
        ap (λ o. frame_by known (schema_of s) o (with_contents m c)) at
        ∙ ap₂ (λ number version. header (needed (form_view known n t) c) (block_length n.version (template_of t).root) number (schema_of s) version ++ contents_bytes (form_view known n t) c) h.number_is h.version_is

    pub frame_changed_long : (c : Contents) → length (frame known (dictionary_of s) (with_contents m c)) ≡ needed (form_view known n t) c
    frame_changed_long c = ap length (frame_changed c) ∙ header_long (needed (form_view known n t) c) (block_length n.version (template_of t).root) n.template (schema_of s) n.version (contents_bytes (form_view known n t) c)

    -- the frame that the buffer begins with
    pub frame_is : take n.length buffer ≡ form_header s n t n.length ++ contents_bytes (form_view known n t) m.contents
    frame_is = sym h.front ∙ frame_changed m.contents ∙ ap (λ w. form_header s n t w ++ contents_bytes (form_view known n t) m.contents) h.needs

    -- the buffer: the header, the contents, and what stands behind the frame
    pub buffer_is : buffer ≡ form_header s n t n.length ++ (contents_bytes (form_view known n t) m.contents ++ drop n.length buffer)
    buffer_is =
        sym (take-append-drop n.length buffer)
        ∙ ap (λ x. x ++ drop n.length buffer) frame_is
        ∙ append_assoc (form_header s n t n.length) (contents_bytes (form_view known n t) m.contents) (drop n.length buffer)

    -- the buffer with the frame of other contents in front
    pub laid_is : (c : Contents) → laid (frame known (dictionary_of s) (with_contents m c)) buffer ≡ form_header s n t (needed (form_view known n t) c) ++ (contents_bytes (form_view known n t) c ++ drop (needed (form_view known n t) c) buffer)
    laid_is c =
        ap₂ (λ x w. x ++ drop w buffer) (frame_changed c) (frame_changed_long c)
        ∙ append_assoc (form_header s n t (needed (form_view known n t) c)) (contents_bytes (form_view known n t) c) (drop (needed (form_view known n t) c) buffer)

    -- what a call leaves that puts other contents in place of the message's
    pub left_is : (c : Contents) → left_of known (dictionary_of s) buffer (with_contents m c) ≡ record {
      length = needed (form_view known n t) c;
      bytes = form_header s n t (needed (form_view known n t) c) ++ (contents_bytes (form_view known n t) c ++ drop (needed (form_view known n t) c) buffer);
    }
    left_is c = λ i. record { length = frame_changed_long c i; bytes = laid_is c i }

    -- the same, where the length and the bytes are known otherwise
    pub left_changed : (c : Contents) (w : ℕ) (bs : List ℕ) → needed (form_view known n t) c ≡ w → form_header s n t w ++ (contents_bytes (form_view known n t) c ++ drop w buffer) ≡ bs → left_of known (dictionary_of s) buffer (with_contents m c) ≡ record { length = w; bytes = bs }
    left_changed c w bs long bytes =
        left_is c
        ∙ (λ i. record { length = long i; bytes = form_header s n t (long i) ++ (contents_bytes (form_view known n t) c ++ drop (long i) buffer) })
        ∙ (λ i. record { length = w; bytes = bytes i })

-- ---- patches and moves that have room

pub patched_in_room : (p : ℕ) (x bs : List ℕ) → p + length x ≤ length bs → patched_in p x bs ≡ patched p x bs
patched_in_room p x bs e = ap (λ b. cond b (patched p x bs) bs) (le-leb _ _ e)

pub shifted_in_room : (from end to : ℕ) (bs : List ℕ) → from ≤ end → end ≤ length bs → to + (end - from) ≤ length bs → shifted_in from end to bs ≡ shifted from end to bs
shifted_in_room from end to bs e f g =
    ap (λ b. cond b (shifted from end to bs) bs) (and_from (leb from end) (leb end (length bs) && leb (to + (end - from)) (length bs)) (le-leb _ _ e) (and_from (leb end (length bs)) (leb (to + (end - from)) (length bs)) (le-leb _ _ f) (le-leb _ _ g)))

-- a patch of as many bytes as stand behind a
pub patched_in_at : (p : ℕ) (a old new z bs : List ℕ) → bs ≡ a ++ (old ++ z) → p ≡ length a → length new ≡ length old → patched_in p new bs ≡ a ++ (new ++ z)
patched_in_at p a old new z bs s e l =
    let long : length bs ≡ length a + (length old + length z) = ap length s ∙ length-append a (old ++ z) ∙ ap (λ k. length a + k) (length-append old z) in
    patched_in_room p new bs (omega arith)
    ∙ ap (patched p new) s
    ∙ patched_behind p 0 new a (old ++ z) (omega arith)
    ∙ ap (λ x. a ++ x) (patched_front new old z l)

-- the same of bytes of which some are others
pub patched_in_split : (whole changed : List ℕ) (place : ℕ) (old new bs : List ℕ) → SplitFrom 0 whole changed place old new → bs ≡ whole → length new ≡ length old → patched_in place new bs ≡ changed
patched_in_split whole changed place old new bs s e l =
    let at = s.at in
    patched_in_at place s.before old new s.behind bs (e ∙ s.was) (omega arith) l ∙ sym s.is

-- another length in a header
pub patched_in_header : (w u size number schema version : ℕ) (bs : List ℕ) → patched_in 0 (le_bytes 2 u) (header w size number schema version ++ bs) ≡ header u size number schema version ++ bs
patched_in_header w u size number schema version bs =
    let all = header w size number schema version ++ bs in
    patched_in_room 0 (le_bytes 2 u) all (omega arith) ∙ patched_front (le_bytes 2 u) (le_bytes 2 w) (drop 2 all) refl
