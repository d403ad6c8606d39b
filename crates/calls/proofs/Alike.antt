-- Two editions answer the same calls alike, as long as nothing is opened above the earlier one's version.
use Rattle.std.proofs.Common.{◌≡◌, ℕ, ◌≤◌, ◌&&◌, List, [], ◌∷◌, length, Some, None, Ok, Err, Option, Result, sym, refl, ap, ◌∙◌, ap₂, arith}
use Rattle.std.proofs.lemmas.Bool.{le-leb}
use Rattle.wire.specs.declared.refusal.Reason.TheVariants as reason
use Rattle.wire.specs.declared.refusal.Refusal.{Refusal}
use Rattle.wire.specs.Refusals.{bind}
use Rattle.types.specs.Kinds.{Known}
use Rattle.schema.specs.Verdicts.{Verdict, rule}
use Rattle.schema.specs.Structure.{Template}
use Rattle.schema.specs.Reading.{dictionary_of}
use Rattle.schema.specs.Seen.{template_at}
use Rattle.schema.specs.Editions.{EarlierEdition}
use Rattle.schema.specs.Laws.{Checked}
use Rattle.schema.proofs.EditionLaws.{template_at_earlier}
use Rattle.message.specs.Frames.{Contents}
use Rattle.message.specs.Messages.{Message, view_of, frame_by, frame, template_geometry, is_there}
use Rattle.message.proofs.Found.{geometry_passes}
use Rattle.calls.specs.Changes.{◌before◌, blank_contents, with_room, closing_verdict}
use Rattle.calls.specs.Calls.{Fill, Call, begin, fill, close, reopen, Form, no_form, opened, closed, by_messages, Outcome, becomes, refuses, out_of_turn, turned, can_open, opened_by, filled, filled_by, closed_by, opening, worked_on, filling, closing, reopening, asked, answer_of, laid, form_of, shown, buffer_after, message_after}
use Rattle.calls.specs.Runs.{asked_by_messages, turn_of, after_turn, run_by_messages, run_by_buffer, message_left, OpensUpTo}
use Rattle.calls.specs.Laws.{IsWhatItsMessagesSay, AnswersAlike}

-- ---- what an answer gives, if it is not refused

abbrev Gives : {X : Type 0} → (X → Type 0) → Result X Refusal → Type 0
Gives P (Ok x) = P x
Gives P (Err e) = Unit {0}

gives_before : {X : Type 0} (P : X → Type 0) (v : Verdict) (r : Result X Refusal) → Gives P r → Gives P (v before r)
gives_before P (Ok x) r h = h
gives_before P (Err e) r h = tt

gives_bind : {X Y : Type 0} (P : X → Type 0) (Q : Y → Type 0) (r : Result X Refusal) (f : X → Result Y Refusal) → Gives P r → ((x : X) → P x → Gives Q (f x)) → Gives Q (bind r f)
gives_bind P Q (Ok x) f h k = k x h
gives_bind P Q (Err e) f h k = tt

-- ---- forms up to a version

abbrev pub UpTo : ℕ → Form Message → Type 0
UpTo v no_form = Unit {0}
UpTo v (opened m) = m.version ≤ v
UpTo v (closed m) = m.version ≤ v

abbrev CallUpTo : ℕ → Call → Type 0
CallUpTo v (begin template version) = version ≤ v
CallUpTo v (fill k) = Unit {0}
CallUpTo v close = Unit {0}
CallUpTo v reopen = Unit {0}

-- the first call, and the calls behind it
first_and_rest : (v : ℕ) (k : Call) (ks : List Call) → OpensUpTo v (k ∷ ks) → CallUpTo v k × OpensUpTo v ks
first_and_rest v (begin template version) ks h = (h.0, h.1)
first_and_rest v (fill k) ks h = (tt, h)
first_and_rest v close ks h = (tt, h)
first_and_rest v reopen ks h = (tt, h)

abbrev BecomesUpTo : ℕ → Outcome (Form Message) → Type 0
BecomesUpTo v (becomes st) = UpTo v st
BecomesUpTo v (refuses e) = Unit {0}
BecomesUpTo v out_of_turn = Unit {0}

module _ (v : ℕ) where
  abbrev MessageUpTo : Message → Type 0
  MessageUpTo m = m.version ≤ v

  turns_opened : (r : Result Message Refusal) → Gives MessageUpTo r → BecomesUpTo v (turned opened r)
  turns_opened (Ok m) h = h
  turns_opened (Err e) h = tt

  turns_closed : (r : Result Message Refusal) → Gives MessageUpTo r → BecomesUpTo v (turned closed r)
  turns_closed (Ok m) h = h
  turns_closed (Err e) h = tt

  after_up_to : (st : Form Message) (o : Outcome (Form Message)) → UpTo v st → BecomesUpTo v o → UpTo v (message_after st o)
  after_up_to st (becomes new) b h = h
  after_up_to st (refuses e) b h = b
  after_up_to st out_of_turn b h = b

  -- a message of any contents
  made_up_to : (template version : ℕ) (r : Result Contents Refusal) → version ≤ v → Gives MessageUpTo (bind r (λ c. Ok (record { template = template; version = version; contents = c })))
  made_up_to template version (Ok c) l = l
  made_up_to template version (Err e) l = tt

  module _ (known : Known) where
    opened_up_to : (room template version : ℕ) (o : Option Template) → version ≤ v → Gives MessageUpTo (opened_by known room template version o)
    opened_up_to room template version None l = tt
    opened_up_to room template version (Some t) l = made_up_to template version (with_room room (view_of known t) (blank_contents (view_of known t))) l

    filled_up_to : (room : ℕ) (k : Fill) (m : Message) (o : Option Template) → m.version ≤ v → Gives MessageUpTo (filled_by known room k m o)
    filled_up_to room k m None l = tt
    filled_up_to room k m (Some t) l = made_up_to m.template m.version (filled room (view_of known t) m.contents k) l

    closed_up_to : (m : Message) (o : Option Template) → m.version ≤ v → Gives MessageUpTo (closed_by known m o)
    closed_up_to m None l = tt
    closed_up_to m (Some t) l = gives_before MessageUpTo (closing_verdict (view_of known t) m.contents) (Ok m) l

    module _ (s : List ℕ) where
      opening_up_to : (room template version : ℕ) → version ≤ v → Gives MessageUpTo (opening known s room template version)
      opening_up_to room template version l =
          let found = template_at (dictionary_of s) template version in
          let right = template_geometry known s template version in
          gives_before MessageUpTo (rule (can_open (dictionary_of s) template version) reason.CannotOpen 0 0) (right before opened_by known room template version found)
          (gives_before MessageUpTo right (opened_by known room template version found) (opened_up_to room template version found l))

      worked_up_to : (m : Message) → m.version ≤ v → Gives MessageUpTo (worked_on known s by_messages m)
      worked_up_to m l =
          let right = template_geometry known s m.template m.version in
          gives_before MessageUpTo (rule (can_open (dictionary_of s) m.template m.version) reason.NotThisForm 0 0) (right before Ok m)
          (gives_before MessageUpTo right (Ok m) l)

      -- a call on a form up to v leaves one up to v
      asked_up_to : (room : ℕ) (st : Form Message) (k : Call) → UpTo v st → CallUpTo v k → BecomesUpTo v (asked known s by_messages room st k)
      asked_up_to room no_form (begin template version) b l = turns_opened (opening known s room template version) (opening_up_to room template version l)
      asked_up_to room no_form (fill k) b l = tt
      asked_up_to room no_form close b l = tt
      asked_up_to room no_form reopen b l = tt
      asked_up_to room (opened m) (begin template version) b l = turns_opened (opening known s room template version) (opening_up_to room template version l)
      asked_up_to room (opened m) (fill k) b l = turns_opened (filling known s by_messages room m k) (gives_bind MessageUpTo MessageUpTo (worked_on known s by_messages m) (λ n. filled_by known room k n (template_at (dictionary_of s) m.template m.version)) (worked_up_to m b) (λ n h. filled_up_to room k n (template_at (dictionary_of s) m.template m.version) h))
      asked_up_to room (opened m) close b l = turns_closed (closing known s by_messages m) (gives_bind MessageUpTo MessageUpTo (worked_on known s by_messages m) (λ n. closed_by known n (template_at (dictionary_of s) m.template m.version)) (worked_up_to m b) (λ n h. closed_up_to n (template_at (dictionary_of s) m.template m.version) h))
      asked_up_to room (opened m) reopen b l = tt
      asked_up_to room (closed m) (begin template version) b l = turns_opened (opening known s room template version) (opening_up_to room template version l)
      asked_up_to room (closed m) (fill k) b l = tt
      asked_up_to room (closed m) close b l = tt
      asked_up_to room (closed m) reopen b l = turns_opened (reopening known s by_messages m) (worked_up_to m b)

      -- calls that open nothing above v leave a form up to v
      pub run_up_to : (st : Form Message) (buffer : List ℕ) (ks : List Call) → UpTo v st → OpensUpTo v ks → UpTo v (run_by_messages known s st buffer ks).form
      run_up_to st buffer [] b l = b
      run_up_to st buffer (k ∷ ks) b l =
          let h = first_and_rest v k ks l in
          let o = asked_by_messages known s st buffer k in
          run_up_to (message_after st o) (buffer_after known (dictionary_of s) buffer o) ks (after_up_to st o b (asked_up_to (length buffer) st k b h.0)) h.1

-- ---- two editions

module _ (known : Known) (earlier later : List ℕ) (ce : Checked known earlier) (cl : Checked known later) (x : EarlierEdition (dictionary_of earlier) (dictionary_of later)) where
  abbrev low : ℕ
  low = (dictionary_of earlier).version

  templates_same : (number version : ℕ) → version ≤ low → template_at (dictionary_of earlier) number version ≡ template_at (dictionary_of later) number version
  templates_same number version l = template_at_earlier (dictionary_of earlier) (dictionary_of later) x number version l

  -- up to the earlier version a message has the same frame under both
  pub frames_same : (m : Message) → m.version ≤ low → frame known (dictionary_of earlier) m ≡ frame known (dictionary_of later) m
  frames_same m l = ap₂ (λ i o. frame_by known i o m) x.schema (templates_same m.template m.version l)

  -- and a form of the same plain numbers holds it
  pub forms_same : (st : Form Message) → UpTo low st → form_of known (dictionary_of earlier) st ≡ form_of known (dictionary_of later) st
  forms_same no_form b = refl
  forms_same (opened m) b = λ i. opened (record { template = m.template; version = m.version; length = length (frames_same m b i) })
  forms_same (closed m) b = λ i. closed (record { template = m.template; version = m.version; length = length (frames_same m b i) })

  shown_same : (st : Form Message) (buffer : List ℕ) → UpTo low st → shown known (dictionary_of earlier) st buffer ≡ shown known (dictionary_of later) st buffer
  shown_same no_form buffer b = refl
  shown_same (opened m) buffer b = ap (λ f. laid f buffer) (frames_same m b)
  shown_same (closed m) buffer b = ap (λ f. laid f buffer) (frames_same m b)

  buffer_same : (buffer : List ℕ) (o : Outcome (Form Message)) → BecomesUpTo low o → buffer_after known (dictionary_of earlier) buffer o ≡ buffer_after known (dictionary_of later) buffer o
  buffer_same buffer (becomes st) b = shown_same st buffer b
  buffer_same buffer (refuses e) b = refl
  buffer_same buffer out_of_turn b = refl

  -- the check of both dictionaries has passed, so types and geometry are right in both: what counts is whether the template is there
  module _ (s : List ℕ) (c : Checked known s) where
    opening_is : (room template version : ℕ) → version ≤ (dictionary_of s).version →
        opening known s room template version ≡ (rule (is_there (template_at (dictionary_of s) template version)) reason.CannotOpen 0 0 before opened_by known room template version (template_at (dictionary_of s) template version))
    opening_is room template version l =
        let low_enough = le-leb version (dictionary_of s).version l in
        let right = geometry_passes known s c template version in
        let found = template_at (dictionary_of s) template version in
        λ i. rule (low_enough i && is_there found) reason.CannotOpen 0 0 before right i before opened_by known room template version found

    worked_is : (m : Message) → m.version ≤ (dictionary_of s).version →
        worked_on known s by_messages m ≡ (rule (is_there (template_at (dictionary_of s) m.template m.version)) reason.NotThisForm 0 0 before Ok m)
    worked_is m l =
        let low_enough = le-leb m.version (dictionary_of s).version l in
        let right = geometry_passes known s c m.template m.version in
        let found = template_at (dictionary_of s) m.template m.version in
        λ i. rule (low_enough i && is_there found) reason.NotThisForm 0 0 before right i before Ok m

  opening_same : (room template version : ℕ) → version ≤ low → opening known earlier room template version ≡ opening known later room template version
  opening_same room template version l =
      let rises = x.version in
      opening_is earlier ce room template version l
      ∙ ap (λ o. rule (is_there o) reason.CannotOpen 0 0 before opened_by known room template version o) (templates_same template version l)
      ∙ sym (opening_is later cl room template version (omega arith))

  worked_same : (m : Message) → m.version ≤ low → worked_on known earlier by_messages m ≡ worked_on known later by_messages m
  worked_same m l =
      let rises = x.version in
      worked_is earlier ce m l
      ∙ ap (λ o. rule (is_there o) reason.NotThisForm 0 0 before Ok m) (templates_same m.template m.version l)
      ∙ sym (worked_is later cl m (omega arith))

  -- each call is answered alike
  asked_same : (room : ℕ) (st : Form Message) (k : Call) → UpTo low st → CallUpTo low k → asked known earlier by_messages room st k ≡ asked known later by_messages room st k
  asked_same room no_form (begin template version) b l = ap (turned opened) (opening_same room template version l)
  asked_same room no_form (fill k) b l = refl
  asked_same room no_form close b l = refl
  asked_same room no_form reopen b l = refl
  asked_same room (opened m) (begin template version) b l = ap (turned opened) (opening_same room template version l)
  asked_same room (opened m) (fill k) b l = ap₂ (λ r o. turned opened (bind r (λ n. filled_by known room k n o))) (worked_same m b) (templates_same m.template m.version b)
  asked_same room (opened m) close b l = ap₂ (λ r o. turned closed (bind r (λ n. closed_by known n o))) (worked_same m b) (templates_same m.template m.version b)
  asked_same room (opened m) reopen b l = refl
  asked_same room (closed m) (begin template version) b l = ap (turned opened) (opening_same room template version l)
  asked_same room (closed m) (fill k) b l = refl
  asked_same room (closed m) close b l = refl
  asked_same room (closed m) reopen b l = ap (turned opened) (worked_same m b)

  runs_same : (st : Form Message) (buffer : List ℕ) (ks : List Call) → UpTo low st → OpensUpTo low ks → run_by_messages known earlier st buffer ks ≡ run_by_messages known later st buffer ks
  runs_same st buffer [] b l = refl
  runs_same st buffer (k ∷ ks) b l =
      let h = first_and_rest low k ks l in
      let mine = asked_by_messages known earlier st buffer k in
      let theirs = asked_by_messages known later st buffer k in
      let same : mine ≡ theirs = asked_same (length buffer) st k b h.0 in
      let up = asked_up_to low known later (length buffer) st k b h.0 in
      let left : buffer_after known (dictionary_of earlier) buffer mine ≡ buffer_after known (dictionary_of later) buffer theirs =
      ap (buffer_after known (dictionary_of earlier) buffer) same ∙ buffer_same buffer theirs up in
      let rest = runs_same (message_after st theirs) (buffer_after known (dictionary_of later) buffer theirs) ks (after_up_to low st theirs b up) h.1 in
      (λ i. after_turn (record { said = answer_of (same i); left = left i }) (run_by_messages known earlier (message_after st (same i)) (left i) ks))
      ∙ ap (after_turn (turn_of known later buffer theirs)) rest

  -- the same calls add up to the same, answer for answer and byte for byte
  pub alike_by_messages : (buffer : List ℕ) (ks : List Call) → OpensUpTo low ks → run_by_messages known earlier no_form buffer ks ≡ run_by_messages known later no_form buffer ks
  alike_by_messages buffer ks l = runs_same no_form buffer ks tt l

  -- and so they answer alike, where the calls by the buffer are the calls by their messages
  pub alike : (buffer : List ℕ) (ks : List Call) → IsWhatItsMessagesSay known earlier buffer ks → IsWhatItsMessagesSay known later buffer ks → AnswersAlike known earlier later buffer ks
  alike buffer ks a b l =
      let same = alike_by_messages buffer ks l in
      let turns : (run_by_buffer known earlier no_form buffer ks).turns ≡ (run_by_buffer known later no_form buffer ks).turns = a.turns ∙ ap (λ r. r.turns) same ∙ sym b.turns in
      let left : (run_by_buffer known earlier no_form buffer ks).buffer ≡ (run_by_buffer known later no_form buffer ks).buffer = a.buffer_left ∙ ap (λ r. r.buffer) same ∙ sym b.buffer_left in
      let form : (run_by_buffer known earlier no_form buffer ks).form ≡ (run_by_buffer known later no_form buffer ks).form =
      a.form_left
      ∙ forms_same (message_left known earlier buffer ks) (run_up_to low known earlier no_form buffer ks tt l)
      ∙ ap (λ r. form_of known (dictionary_of later) r.form) same
      ∙ sym b.form_left in
      λ i. record { turns = turns i; form = form i; buffer = left i }
