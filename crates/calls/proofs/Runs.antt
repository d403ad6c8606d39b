-- From no form on, the buffer begins with the frame of the message that the calls add up to, so that each call finds that message.
use Rattle.std.proofs.Common.{◌≡◌, ℕ, ◌≤◌, min, Bool, true, false, cond, leb, List, [], ◌∷◌, ◌++◌, map, length, take, drop, Some, None, Ok, Err, Option, sym, refl, ap, ◌∙◌, subst, arith, length-append, length-drop}
use Rattle.std.specs.List.{AllByRecursion}
use Rattle.std.proofs.lemmas.List.{take_at, take-append-drop}
use Rattle.std.proofs.ByRecursion.{All-weaker}
use Rattle.std.proofs.lemmas.Bool.{leb-true, le-leb, and_parts, and_from}
use Rattle.wire.specs.declared.refusal.Reason.TheVariants as reason
use Rattle.wire.specs.declared.refusal.Refusal.{Refusal}
use Rattle.wire.specs.Refusals.{refusal, bind}
use Rattle.types.specs.Kinds.{Known, AllLawful}
use Rattle.schema.specs.Verdicts.{fine}
use Rattle.schema.specs.Structure.{Field, Group, Template}
use Rattle.schema.specs.Reading.{dictionary_of}
use Rattle.schema.specs.Seen.{template_at}
use Rattle.schema.specs.WellFormed.{GoodField, GoodGroup, GoodTemplate, WellFormed}
use Rattle.schema.specs.Laws.{Checked}
use Rattle.schema.proofs.EditionsAgree.{checked_is_well_formed}
use Rattle.schema.proofs.Exact.{passes_exactly}
use Rattle.message.specs.Blocks.{HasPattern}
use Rattle.message.specs.Frames.{Holds}
use Rattle.message.specs.Messages.{Message, slot_of, group_view, view_of, frame, frame_by, frame_of, template_geometry, is_there, Stands}
use Rattle.message.specs.Fronts.{front_message}
use Rattle.message.proofs.Views.{SoundView, found_good, found_sound}
use Rattle.message.proofs.Found.{geometry_passes}
use Rattle.message.proofs.Fronts.{fronts_are_frames}
use Rattle.calls.specs.Changes.{◌before◌, blank_meaning, needed, blank_contents, with_room, closing_verdict}
use Rattle.calls.specs.Calls.{Fill, SayableFill, Call, begin, fill, close, reopen, SayableCall, Form, no_form, opened, closed, Numbers, HeldBy, by_messages, or_not_this_form, by_buffer, Outcome, becomes, refuses, out_of_turn, turned, can_open, opened_by, filled, filled_by, closed_by, opening, worked_on, filling, closing, reopening, asked, refused, laid, numbers_of, form_of, form_after, buffer_after, message_after}
use Rattle.calls.specs.Runs.{Turn, Run, after_turn, asked_by_messages, asked_by_buffer, turn_of, run_by_messages, run_by_buffer}
use Rattle.calls.proofs.Outcomes.{Gives, Becomes, gives_bind, gives_turned, gives_rule, cannot_open}
use Rattle.calls.proofs.Kept.{BlankSlots, BlankView, Roomy, fill_kept, blank_kept, closing_complete, holds_open}

-- ---- blanks of a template that is found

module _ (known : Known) (lawful : AllLawful known) where
  slots_blank : (fs : List Field) → AllByRecursion (GoodField known) fs → BlankSlots (map (slot_of known) fs)
  slots_blank [] g = tt
  slots_blank (f ∷ fs) g =
      let is = (lawful f.type f.argument g.0.kind g.0.known_type).blank_is in
      let of_kind : HasPattern (Some g.0.kind) (blank_meaning (Some g.0.kind)) = rw is in
      (subst (λ k. HasPattern k (blank_meaning k)) (sym g.0.known_type) of_kind, slots_blank fs g.1)

  groups_blank : (version : ℕ) (gs : List Group) → AllByRecursion (GoodGroup known version) gs → AllByRecursion (λ g. BlankSlots g.block.slots) (map (group_view known) gs)
  groups_blank version [] h = tt
  groups_blank version (g ∷ gs) h = (slots_blank g.block.fields h.0.block.fields, groups_blank version gs h.1)

  view_blank : (version : ℕ) (t : Template) → GoodTemplate known version t → BlankView (view_of known t)
  view_blank version t g = record { root = slots_blank t.root.fields g.root.fields; groups = groups_blank version t.groups g.groups }

-- no answer says that the buffer does not begin with the form
abbrev pub OfThisForm : Turn → Type 0
OfThisForm t = (e : Refusal) → t.said ≡ refused e → e.reason ≡ reason.NotThisForm → ⊥

module _ (known : Known) (lawful : AllLawful known) (s : List ℕ) (checked : Checked known s) where
  well : WellFormed known (dictionary_of s)
  well = checked_is_well_formed known (passes_exactly known) s checked

  sound_at : (n v : ℕ) (t : Template) → template_at (dictionary_of s) n v ≡ Some t → SoundView (view_of known t)
  sound_at n v t e = found_sound known lawful (dictionary_of s) well n v t e

  blank_at : (n v : ℕ) (t : Template) → template_at (dictionary_of s) n v ≡ Some t → BlankView (view_of known t)
  blank_at n v t e = view_blank known lawful v t (found_good known lawful (dictionary_of s) well n v t e).0

  -- ---- the message of a form

  -- a message that a form may hold, open or closed, in a buffer of `room` bytes
  pub record Kept (shut : Bool) (room : ℕ) (m : Message) : Type 0 where
    pub stands : Stands shut known (dictionary_of s) m
    pub fits : length (frame known (dictionary_of s) m) ≤ room

  frame_long : (m : Message) (t : Template) → template_at (dictionary_of s) m.template m.version ≡ Some t → length (frame known (dictionary_of s) m) ≡ needed (view_of known t) m.contents
  frame_long m t e =
      let is : length (frame known (dictionary_of s) m) ≡ length (frame_of known (dictionary_of s).schema t m) = ap (λ o. length (frame_by known (dictionary_of s).schema o m)) e in
      omega arith

  kept_from : (shut : Bool) (room : ℕ) (m : Message) (t : Template) → template_at (dictionary_of s) m.template m.version ≡ Some t → m.version ≤ (dictionary_of s).version → Holds shut (view_of known t) m.contents → needed (view_of known t) m.contents ≤ min room 16384 → Kept shut room m
  kept_from shut room m t e l h n =
      let i = frame_long m t e in
      record { stands = record { template = t; found = e; version = l; right = h; short = omega arith }; fits = omega arith }

  -- a form in a buffer of `room` bytes
  abbrev pub Good : ℕ → Form Message → Type 0
  Good room no_form = Unit {0}
  Good room (opened m) = Kept false room m
  Good room (closed m) = Kept true room m

  room_of : (shut : Bool) (room : ℕ) (m : Message) (h : Kept shut room m) → needed (view_of known h.stands.template) m.contents ≤ min room 16384
  room_of shut room m h =
      let i = frame_long m h.stands.template h.stands.found in
      let a = h.stands.short in
      let b = h.fits in
      omega arith

  kept_open : (room : ℕ) (m : Message) → Kept true room m → Kept false room m
  kept_open room m h = kept_from false room m h.stands.template h.stands.found h.stands.version (holds_open (view_of known h.stands.template) m.contents h.stands.right) (room_of true room m h)

  -- ---- each call keeps it

  opened_kept : (room template version : ℕ) (o : Option Template) → template_at (dictionary_of s) template version ≡ o → version ≤ (dictionary_of s).version → Gives (Kept false room) (opened_by known room template version o)
  opened_kept room template version None e l = cannot_open
  opened_kept room template version (Some t) e l =
      let v = view_of known t in
      gives_bind (Roomy room v (sound_at template version t e) (blank_at template version t e)) (Kept false room) (with_room room v (blank_contents v)) (λ c. Ok (record { template = template; version = version; contents = c }))
      (blank_kept room v (sound_at template version t e) (blank_at template version t e))
      (λ c h. kept_from false room (record { template = template; version = version; contents = c }) t e l h.right h.fits)

  opening_kept : (room template version : ℕ) → Gives (Kept false room) (opening known s room template version)
  opening_kept room template version =
      let o = template_at (dictionary_of s) template version in
      gives_rule (Kept false room) (can_open (dictionary_of s) template version) reason.CannotOpen 0 0 (template_geometry known s template version before opened_by known room template version o) cannot_open
      (λ e. let a = and_parts (leb version (dictionary_of s).version) (is_there o) e in
      rw (geometry_passes known s checked template version) (opened_kept room template version o refl (leb-true _ _ a.0)))

  filled_kept : (room : ℕ) (k : Fill) → SayableFill k → (m : Message) → Kept false room m → Gives (Kept false room) (filled_by known room k m (template_at (dictionary_of s) m.template m.version))
  filled_kept room k y m h =
      let t = h.stands.template in
      let e = h.stands.found in
      let v = view_of known t in
      let sound = sound_at m.template m.version t e in
      let blank = blank_at m.template m.version t e in
      rw e
      (gives_bind (Roomy room v sound blank) (Kept false room) (filled room v m.contents k) (λ c. Ok (record { template = m.template; version = m.version; contents = c }))
      (fill_kept room v sound blank m.contents (record { right = h.stands.right; fits = room_of false room m h }) k y)
      (λ c x. kept_from false room (record { template = m.template; version = m.version; contents = c }) t e h.stands.version x.right x.fits))

  closed_kept : (room : ℕ) (m : Message) → Kept false room m → Gives (Kept true room) (closed_by known m (template_at (dictionary_of s) m.template m.version))
  closed_kept room m h =
      let t = h.stands.template in
      let e = h.stands.found in
      let v = view_of known t in
      rw e
      (gives_bind (λ _. Holds true v m.contents) (Kept true room) (closing_verdict v m.contents) (λ _. Ok m) (closing_complete v m.contents h.stands.right)
      (λ _ x. kept_from true room m t e h.stands.version x (room_of false room m h)))

  -- ---- a form's message is found

  can_open_it : (shut : Bool) (m : Message) → Stands shut known (dictionary_of s) m → can_open (dictionary_of s) m.template m.version ≡ true
  can_open_it shut m h = and_from _ _ (le-leb _ _ h.version) (ap is_there h.found)

  -- a form whose message is there is worked on
  worked : {A : Type 0} (held : HeldBy A) (a : A) (m : Message) → can_open (dictionary_of s) (held.template a) (held.version a) ≡ true → held.message a ≡ Ok m → worked_on known s held a ≡ Ok m
  worked held a m can e =
      ap (λ b. cond b fine (Err (refusal reason.NotThisForm 0 0)) before template_geometry known s (held.template a) (held.version a) before held.message a) can
      ∙ ap (λ v. v before held.message a) (geometry_passes known s checked (held.template a) (held.version a))
      ∙ e

  worked_by_messages : (shut : Bool) (m : Message) → Stands shut known (dictionary_of s) m → worked_on known s by_messages m ≡ Ok m
  worked_by_messages shut m h = worked by_messages m m (can_open_it shut m h) refl

  -- the buffer begins with the frame
  abbrev pub Begins : Message → List ℕ → Type 0
  Begins m buffer = take (length (frame known (dictionary_of s) m)) buffer ≡ frame known (dictionary_of s) m

  found_in_front : (m : Message) (buffer : List ℕ) → Stands false known (dictionary_of s) m → Begins m buffer → front_message known s m.template m.version (length (frame known (dictionary_of s) m)) buffer ≡ Some m
  found_in_front m buffer h e =
      let n = length (frame known (dictionary_of s) m) in
      let is : buffer ≡ frame known (dictionary_of s) m ++ drop n buffer = sym (take-append-drop n buffer) ∙ ap (λ x. x ++ drop n buffer) e in
      ap (λ x. front_message known s m.template m.version n x) is ∙ (fronts_are_frames known lawful (passes_exactly known) s checked).found m (drop n buffer) h

  worked_by_buffer : (m : Message) (buffer : List ℕ) → Stands false known (dictionary_of s) m → Begins m buffer → worked_on known s (by_buffer known s buffer) (numbers_of known (dictionary_of s) m) ≡ Ok m
  worked_by_buffer m buffer h e = worked (by_buffer known s buffer) (numbers_of known (dictionary_of s) m) m (can_open_it false m h) (ap or_not_this_form (found_in_front m buffer h e))

  -- ---- what comes of a call

  pub asked_kept : (room : ℕ) (st : Form Message) (k : Call) → SayableCall k → Good room st → Becomes (Good room) (asked known s by_messages room st k)
  asked_kept room no_form (begin template version) y g = gives_turned (Kept false room) (Good room) opened (opening known s room template version) (opening_kept room template version) (λ m h. h)
  asked_kept room no_form (fill k) y g = tt
  asked_kept room no_form close y g = tt
  asked_kept room no_form reopen y g = tt
  asked_kept room (opened m) (begin template version) y g = gives_turned (Kept false room) (Good room) opened (opening known s room template version) (opening_kept room template version) (λ m h. h)
  asked_kept room (opened m) (fill k) y g =
      gives_turned (Kept false room) (Good room) opened (filling known s by_messages room m k) (rw (worked_by_messages false m g.stands) (filled_kept room k y m g)) (λ m h. h)
  asked_kept room (opened m) close y g =
      gives_turned (Kept true room) (Good room) closed (closing known s by_messages m) (rw (worked_by_messages false m g.stands) (closed_kept room m g)) (λ m h. h)
  asked_kept room (opened m) reopen y g = tt
  asked_kept room (closed m) (begin template version) y g = gives_turned (Kept false room) (Good room) opened (opening known s room template version) (opening_kept room template version) (λ m h. h)
  asked_kept room (closed m) (fill k) y g = tt
  asked_kept room (closed m) close y g = tt
  asked_kept room (closed m) reopen y g =
      gives_turned (Kept false room) (Good room) opened (reopening known s by_messages m) (rw (worked_by_messages true m g.stands) (kept_open room m g)) (λ m h. h)

  -- ---- what a buffer holds

  -- a form in its buffer: the frame of its message is in front
  abbrev pub InFront : Form Message → List ℕ → Type 0
  InFront no_form buffer = Unit {0}
  InFront (opened m) buffer = Kept false (length buffer) m × Begins m buffer
  InFront (closed m) buffer = Kept true (length buffer) m × Begins m buffer

  pub good_in_front : (st : Form Message) (buffer : List ℕ) → InFront st buffer → Good (length buffer) st
  good_in_front no_form buffer h = tt
  good_in_front (opened m) buffer h = h.0
  good_in_front (closed m) buffer h = h.0

  -- a call finds in the buffer the message of its form
  same_asked : (st : Form Message) (buffer : List ℕ) (k : Call) → InFront st buffer → asked_by_buffer known s (form_of known (dictionary_of s) st) buffer k ≡ asked_by_messages known s st buffer k
  same_asked no_form buffer (begin template version) h = refl
  same_asked no_form buffer (fill k) h = refl
  same_asked no_form buffer close h = refl
  same_asked no_form buffer reopen h = refl
  same_asked (opened m) buffer (begin template version) h = refl
  same_asked (opened m) buffer (fill k) h =
      ap (λ r. turned opened (bind r (λ x. filled_by known (length buffer) k x (template_at (dictionary_of s) m.template m.version)))) (worked_by_buffer m buffer h.0.stands h.1 ∙ sym (worked_by_messages false m h.0.stands))
  same_asked (opened m) buffer close h =
      ap (λ r. turned closed (bind r (λ x. closed_by known x (template_at (dictionary_of s) m.template m.version)))) (worked_by_buffer m buffer h.0.stands h.1 ∙ sym (worked_by_messages false m h.0.stands))
  same_asked (opened m) buffer reopen h = refl
  same_asked (closed m) buffer (begin template version) h = refl
  same_asked (closed m) buffer (fill k) h = refl
  same_asked (closed m) buffer close h = refl
  same_asked (closed m) buffer reopen h =
      ap (λ r. turned opened r) (worked_by_buffer m buffer (kept_open (length buffer) m h.0).stands h.1 ∙ sym (worked_by_messages true m h.0.stands))

  -- ---- what a call leaves

  laid_long : (f buffer : List ℕ) → length f ≤ length buffer → length (laid f buffer) ≡ length buffer
  laid_long f buffer l = rw (length-append, length-drop) (omega arith)

  laid_kept : (shut : Bool) (m : Message) (buffer : List ℕ) → Kept shut (length buffer) m → Kept shut (length (laid (frame known (dictionary_of s) m) buffer)) m × Begins m (laid (frame known (dictionary_of s) m) buffer)
  laid_kept shut m buffer h =
      let f = frame known (dictionary_of s) m in
      let l = h.fits in
      let e = laid_long f buffer l in
      (record { stands = h.stands; fits = omega arith }, take_at f (drop (length f) buffer) (length f) refl)

  -- the buffer after a call begins with the frame of the form's message, and is as long as before
  pub left_in_front : (st : Form Message) (buffer : List ℕ) (o : Outcome (Form Message)) → InFront st buffer → Becomes (Good (length buffer)) o →
      InFront (message_after st o) (buffer_after known (dictionary_of s) buffer o) × (length (buffer_after known (dictionary_of s) buffer o) ≡ length buffer)
  left_in_front st buffer (becomes no_form) h g = (tt, refl)
  left_in_front st buffer (becomes (opened m)) h g = (laid_kept false m buffer g, laid_long (frame known (dictionary_of s) m) buffer g.fits)
  left_in_front st buffer (becomes (closed m)) h g = (laid_kept true m buffer g, laid_long (frame known (dictionary_of s) m) buffer g.fits)
  left_in_front st buffer (refuses e) h g = (h, refl)
  left_in_front st buffer out_of_turn h g = (h, refl)

  said_of_this_form : (P : Form Message → Type 0) (buffer : List ℕ) (o : Outcome (Form Message)) → Becomes P o → OfThisForm (turn_of known s buffer o)
  said_of_this_form P buffer (becomes st) g e q z = let n : ◌≡◌ {A = ℕ} 0 1 = cc in absurd (omega arith)
  said_of_this_form P buffer (refuses r) g e q z = let is : r ≡ e = cc in g (ap (λ x. x.reason) is ∙ z)
  said_of_this_form P buffer out_of_turn g e q z = let n : ◌≡◌ {A = ℕ} 0 1 = cc in absurd (omega arith)

  -- the numbers of the form after a call are those of its message
  same_after : (st : Form Message) (o : Outcome (Form Message)) → form_after known (dictionary_of s) (form_of known (dictionary_of s) st) o ≡ form_of known (dictionary_of s) (message_after st o)
  same_after st (becomes x) = refl
  same_after st (refuses e) = refl
  same_after st out_of_turn = refl

  -- ---- lists of calls

  -- a run by messages with the numbers of the form that it leaves
  abbrev numbered : Run Message → Run Numbers
  numbered r = record { turns = r.turns; form = form_of known (dictionary_of s) r.form; buffer = r.buffer }

  pub record Agrees (st : Form Message) (buffer : List ℕ) (ks : List Call) : Type 0 where
    pub same : run_by_buffer known s (form_of known (dictionary_of s) st) buffer ks ≡ numbered (run_by_messages known s st buffer ks)
    pub of_this_form : AllByRecursion OfThisForm (run_by_messages known s st buffer ks).turns
    pub as_long : AllByRecursion (λ t. length t.left ≡ length buffer) (run_by_messages known s st buffer ks).turns
    pub in_front : InFront (run_by_messages known s st buffer ks).form (run_by_messages known s st buffer ks).buffer

  pub agrees : (st : Form Message) (buffer : List ℕ) (ks : List Call) → AllByRecursion SayableCall ks → InFront st buffer → Agrees st buffer ks
  agrees st buffer [] y h = record { same = refl; of_this_form = tt; as_long = tt; in_front = h }
  agrees st buffer (k ∷ ks) y h =
      let o = asked_by_messages known s st buffer k in
      let g : Becomes (Good (length buffer)) o = asked_kept (length buffer) st k y.0 (good_in_front st buffer h) in
      let l = left_in_front st buffer o h g in
      let st' = message_after st o in
      let buffer' = buffer_after known (dictionary_of s) buffer o in
      let r = agrees st' buffer' ks y.1 l.0 in
      let long : length buffer' ≡ length buffer = l.1 in
      record {
        same =
            ap (λ x. after_turn (turn_of known s buffer x) (run_by_buffer known s (form_after known (dictionary_of s) (form_of known (dictionary_of s) st) x) (buffer_after known (dictionary_of s) buffer x) ks)) (same_asked st buffer k h)
            ∙ ap (λ x. after_turn (turn_of known s buffer o) (run_by_buffer known s x buffer' ks)) (same_after st o)
            ∙ ap (after_turn (turn_of known s buffer o)) r.same;
        of_this_form = (said_of_this_form (Good (length buffer)) buffer o g, r.of_this_form);
        as_long = (long, All-weaker (λ t. length t.left ≡ length buffer') (λ t. length t.left ≡ length buffer) (λ t e. e ∙ long) (run_by_messages known s st' buffer' ks).turns r.as_long);
        in_front = r.in_front;
      }
