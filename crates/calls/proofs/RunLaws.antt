-- A run is what its messages say; frames are equal exactly when messages are; what calls leave closed closes, and is accepted.
use Rattle.std.proofs.Common.{◌≡◌, ℕ, ◌≤◌, true, List, length, Some, None, sym, refl, ap, ◌∙◌, subst, arith}
use Rattle.std.specs.List.{AllByRecursion}
use Rattle.types.specs.Kinds.{Known, AllLawful}
use Rattle.schema.specs.Verdicts.{fine}
use Rattle.schema.specs.Reading.{dictionary_of}
use Rattle.schema.specs.Laws.{Checked}
use Rattle.schema.proofs.Exact.{passes_exactly}
use Rattle.message.specs.Messages.{Message, frame, frame_verdict, stated_version, Closes}
use Rattle.message.specs.Laws.{FramesCarryMessages}
use Rattle.message.proofs.Exact.{carried}
use Rattle.calls.specs.Calls.{Call, SayableCall, Form, no_form, opened, closed, form_of}
use Rattle.calls.specs.Runs.{run_by_messages, run_by_buffer, message_left, closed_in, frame_left}
use Rattle.calls.specs.Laws.{IsWhatItsMessagesSay, FramesEqualExactlyWhenMessagesAre, MadeByCalls, LeftByCalls}
use Rattle.calls.proofs.Runs.{OfThisForm, Begins, InFront, Agrees, agrees}

module _ (known : Known) (lawful : AllLawful known) (s : List ℕ) (checked : Checked known s) where
  module _ (buffer : List ℕ) (ks : List Call) (sayable : AllByRecursion SayableCall ks) where
    whole : Agrees known lawful s checked no_form buffer ks
    whole = agrees known lawful s checked no_form buffer ks sayable tt

    same_turns : (run_by_buffer known s no_form buffer ks).turns ≡ (run_by_messages known s no_form buffer ks).turns
    same_turns = ap (λ r. r.turns) whole.same

    same_buffer : (run_by_buffer known s no_form buffer ks).buffer ≡ (run_by_messages known s no_form buffer ks).buffer
    same_buffer = ap (λ r. r.buffer) whole.same

    same_form : (run_by_buffer known s no_form buffer ks).form ≡ form_of known (dictionary_of s) (message_left known s buffer ks)
    same_form = ap (λ r. r.form) whole.same

    -- a form that is left is in front of the buffer that is left
    front_left : (st : Form Message) → message_left known s buffer ks ≡ st → InFront known lawful s checked st (run_by_messages known s no_form buffer ks).buffer
    front_left st e = subst (λ x. InFront known lawful s checked x (run_by_messages known s no_form buffer ks).buffer) e whole.in_front

    begins_left : (m : Message) → Begins known lawful s checked m (run_by_messages known s no_form buffer ks).buffer → Begins known lawful s checked m (run_by_buffer known s no_form buffer ks).buffer
    begins_left m b = subst (Begins known lawful s checked m) (sym same_buffer) b

    pub closes_left : (m : Message) → message_left known s buffer ks ≡ closed m → Closes known (dictionary_of s) m
    closes_left m e = (front_left (closed m) e).0.stands

    pub frame_of_closed : (m : Message) → message_left known s buffer ks ≡ closed m → frame_left known s buffer ks ≡ Some (frame known (dictionary_of s) m)
    frame_of_closed m e =
        ap (closed_in (run_by_buffer known s no_form buffer ks).buffer) (same_form ∙ ap (form_of known (dictionary_of s)) e)
        ∙ ap Some (begins_left m (front_left (closed m) e).1)

    pub is_what_its_messages_say : IsWhatItsMessagesSay known s buffer ks
    is_what_its_messages_say = record {
      turns = same_turns;
      buffer_left = same_buffer;
      form_left = same_form;
      never_another_form = subst (AllByRecursion OfThisForm) (sym same_turns) whole.of_this_form;
      same_length = subst (AllByRecursion (λ t. length t.left ≡ length buffer)) (sym same_turns) whole.as_long;
      open_begins = λ m e. begins_left m (front_left (opened m) e).1;
      closed_begins = λ m e. begins_left m (front_left (closed m) e).1;
      open_stands = λ m e. (front_left (opened m) e).0.stands;
      closed_closes = closes_left;
      closed_frame = frame_of_closed;
    }

    -- a closed frame that is left is that of a message that is left closed
    pub record LeftClosed (bs : List ℕ) : Type 0 where
      pub message : Message
      pub left : message_left known s buffer ks ≡ closed message
      pub is : bs ≡ frame known (dictionary_of s) message

    left_by : (st : Form Message) → message_left known s buffer ks ≡ st → (bs : List ℕ) → frame_left known s buffer ks ≡ Some bs → LeftClosed bs
    left_by no_form e bs f =
        let none : frame_left known s buffer ks ≡ None = ap (closed_in (run_by_buffer known s no_form buffer ks).buffer) (same_form ∙ ap (form_of known (dictionary_of s)) e) in
        let z : ◌≡◌ {A = ℕ} 0 1 = cc in absurd (omega arith)
    left_by (opened m) e bs f =
        let none : frame_left known s buffer ks ≡ None = ap (closed_in (run_by_buffer known s no_form buffer ks).buffer) (same_form ∙ ap (form_of known (dictionary_of s)) e) in
        let z : ◌≡◌ {A = ℕ} 0 1 = cc in absurd (omega arith)
    left_by (closed m) e bs f =
        let same = frame_of_closed m e in
        record { message = m; left = e; is = cc }

    pub left_closed : (bs : List ℕ) → frame_left known s buffer ks ≡ Some bs → LeftClosed bs
    left_closed bs f = left_by (message_left known s buffer ks) refl bs f

  carries : FramesCarryMessages true known s
  carries = carried known lawful (passes_exactly known) true s checked

  pub frames_equal_exactly : (buffer : List ℕ) (ks : List Call) → AllByRecursion SayableCall ks → FramesEqualExactlyWhenMessagesAre known s buffer ks
  frames_equal_exactly buffer ks sayable buffer' ks' bytes' sayable' m m' e e' =
      let f = frame_of_closed buffer ks sayable m e in
      let f' = frame_of_closed buffer' ks' sayable' m' e' in
      record {
        equal_messages = λ q.
            let same : frame known (dictionary_of s) m ≡ frame known (dictionary_of s) m' = cc in
            carries.equal_frames m m' (closes_left buffer ks sayable m e) (closes_left buffer' ks' sayable' m' e') same;
        equal_frames = λ q. f ∙ ap (λ x. Some (frame known (dictionary_of s) x)) q ∙ sym f';
      }

  pub closes : (m : Message) → MadeByCalls known s m → Closes known (dictionary_of s) m
  closes m x = closes_left x.buffer x.calls x.sayable m x.left

  pub left_is_accepted : (bs : List ℕ) → LeftByCalls known s bs → (frame_verdict known s bs ≡ fine) × (stated_version bs ≤ (dictionary_of s).version)
  left_is_accepted bs x =
      let l = left_closed x.buffer x.calls x.sayable bs x.left in
      let m = l.message in
      let h = closes_left x.buffer x.calls x.sayable m l.left in
      let version : stated_version (frame known (dictionary_of s) m) ≡ m.version = ap (λ y. y.version) (carries.read_back m h) in
      let below = h.version in
      subst (λ y. (frame_verdict known s y ≡ fine) × (stated_version y ≤ (dictionary_of s).version)) (sym l.is) (carries.accepted m h, omega arith)
