-- Every message that closes is made by a list of calls, on every buffer that has room for its frame: its form is opened, filled in call by call, and closed.
use Rattle.std.proofs.Common.{◌≡◌, ℕ, ◌^◌, ◌<◌, ◌≤◌, min, true, leb, List, [], ◌∷◌, length, drop, Some, Ok, refl, ap, ◌∙◌, subst, arith, length-append, length-drop}
use Rattle.std.specs.List.{AllByRecursion}
use Rattle.std.proofs.lemmas.Bool.{le-leb, and_from}
use Rattle.wire.specs.declared.refusal.Reason.TheVariants as reason
use Rattle.wire.specs.Refusals.{refusal, bind}
use Rattle.types.specs.Kinds.{Known, AllLawful}
use Rattle.schema.specs.Verdicts.{fine}
use Rattle.schema.specs.Structure.{Template}
use Rattle.schema.specs.Reading.{dictionary_of}
use Rattle.schema.specs.Seen.{template_at}
use Rattle.schema.specs.WellFormed.{WellFormed}
use Rattle.schema.specs.Laws.{Checked}
use Rattle.schema.proofs.Exact.{passes_exactly}
use Rattle.schema.proofs.EditionsAgree.{checked_is_well_formed}
use Rattle.message.specs.Frames.{View, Contents}
use Rattle.message.specs.Messages.{Message, view_of, frame, frame_by, template_geometry, is_there, Closes}
use Rattle.message.proofs.Views.{found_good}
use Rattle.message.proofs.Found.{geometry_passes}
use Rattle.calls.specs.Changes.{◌before◌, blank_contents, needed, with_room, closing_verdict}
use Rattle.calls.specs.Calls.{Fill, Call, begin, fill, close, SayableCall, no_form, opened, closed, by_messages, becomes, turned, can_open, opened_by, filled, filled_by, closed_by, worked_on, laid, buffer_after, message_after}
use Rattle.calls.specs.Runs.{asked_by_messages, run_by_messages, message_left}
use Rattle.calls.specs.Laws.{MadeIn}
use Rattle.calls.proofs.Steps.{Steps, over, more}
use Rattle.calls.proofs.ReachedContents.{FillStep, rule_before, roomy, contents_reached, never_shorter}
use Rattle.calls.proofs.ReachedClosing.{closes_fine}
use Rattle.calls.proofs.ReachedViews.{view_good}

-- a frame that has room in a buffer leaves its length
laid_long : (f buffer : List ℕ) → length f ≤ length buffer → length (laid f buffer) ≡ length buffer
laid_long f buffer l = rw (length-append f (drop (length f) buffer), length-drop (length f) buffer) (omega arith)

-- the calls of steps, and then the close
abbrev calls_of : {v : View} {c after : Contents} → Steps (FillStep v) c after → List Call
calls_of over = close ∷ []
calls_of (more s w) = fill s.call ∷ calls_of w

calls_sayable : {v : View} {c after : Contents} (w : Steps (FillStep v) c after) → AllByRecursion SayableCall (calls_of w)
calls_sayable over = (tt, tt)
calls_sayable (more s w) = (s.sayable, calls_sayable w)

module _ (known : Known) (s : List ℕ) (checked : Checked known s) (n u : ℕ) (t : Template) (found : template_at (dictionary_of s) n u ≡ Some t) (low : u ≤ (dictionary_of s).version) where
  abbrev holding : Contents → Message
  holding c = record { template = n; version = u; contents = c }

  opens : can_open (dictionary_of s) n u ≡ true
  opens = and_from (leb u (dictionary_of s).version) (is_there (template_at (dictionary_of s) n u)) (le-leb u (dictionary_of s).version low) (ap is_there found)

  geometry : template_geometry known s n u ≡ fine
  geometry = geometry_passes known s checked n u

  works : (c : Contents) → worked_on known s by_messages (holding c) ≡ Ok (holding c)
  works c =
      rule_before (can_open (dictionary_of s) n u) (refusal reason.NotThisForm 0 0) (template_geometry known s n u before Ok (holding c)) opens
      ∙ ap (λ w. w before Ok (holding c)) geometry

  -- the frame is as long as the contents need
  frame_long : (c : Contents) → length (frame known (dictionary_of s) (holding c)) ≡ needed (view_of known t) c
  frame_long c = ap (λ o. length (frame_by known (dictionary_of s).schema o (holding c))) found ∙ omega arith

  module _ (room : ℕ) where
    module _ (buffer : List ℕ) (long : length buffer ≡ room) where
      begin_asked : needed (view_of known t) (blank_contents (view_of known t)) ≤ min room 16384 → asked_by_messages known s no_form buffer (begin n u) ≡ becomes (opened (holding (blank_contents (view_of known t))))
      begin_asked l =
          let v = view_of known t in
          ap (turned opened)
          (rule_before (can_open (dictionary_of s) n u) (refusal reason.CannotOpen 0 0) (template_geometry known s n u before opened_by known (length buffer) n u (template_at (dictionary_of s) n u)) opens
          ∙ ap (λ w. w before opened_by known (length buffer) n u (template_at (dictionary_of s) n u)) geometry
          ∙ ap (opened_by known (length buffer) n u) found
          ∙ ap (λ b. bind (with_room b v (blank_contents v)) (λ c. Ok (holding c))) long
          ∙ ap (λ r. bind r (λ c. Ok (holding c))) (roomy room v (blank_contents v) l))

      fill_asked : (c after : Contents) (k : Fill) → filled room (view_of known t) c k ≡ Ok after → asked_by_messages known s (opened (holding c)) buffer (fill k) ≡ becomes (opened (holding after))
      fill_asked c after k e =
          ap (turned opened)
          (ap (λ r. bind r (λ m. filled_by known (length buffer) k m (template_at (dictionary_of s) n u))) (works c)
          ∙ ap (filled_by known (length buffer) k (holding c)) found
          ∙ ap (λ b. bind (filled b (view_of known t) c k) (λ x. Ok (holding x))) long
          ∙ ap (λ r. bind r (λ x. Ok (holding x))) e)

      close_asked : (c : Contents) → closing_verdict (view_of known t) c ≡ fine → asked_by_messages known s (opened (holding c)) buffer close ≡ becomes (closed (holding c))
      close_asked c e =
          ap (turned closed)
          (ap (λ r. bind r (λ m. closed_by known m (template_at (dictionary_of s) n u))) (works c)
          ∙ ap (closed_by known (holding c)) found
          ∙ ap (λ w. w before Ok (holding c)) e)

      still_long : (c : Contents) → needed (view_of known t) c ≤ min room 16384 → length (laid (frame known (dictionary_of s) (holding c)) buffer) ≡ room
      still_long c l = let e = frame_long c in laid_long (frame known (dictionary_of s) (holding c)) buffer (omega arith) ∙ long

    -- every step is accepted, and then the close
    steps_run : (buffer : List ℕ) → length buffer ≡ room → (c after : Contents) (w : Steps (FillStep (view_of known t)) c after) → needed (view_of known t) after ≤ min room 16384 → closing_verdict (view_of known t) after ≡ fine → (run_by_messages known s (opened (holding c)) buffer (calls_of w)).form ≡ closed (holding after)
    steps_run buffer long c _ over enough right =
        ap (λ o. (run_by_messages known s (message_after (opened (holding c)) o) (buffer_after known (dictionary_of s) buffer o) []).form) (close_asked buffer long c right)
    steps_run buffer long c after (more {b} r w) enough right =
        let l = never_shorter (view_of known t) b after w in
        let fits : needed (view_of known t) b ≤ min room 16384 = omega arith in
        ap (λ o. (run_by_messages known s (message_after (opened (holding c)) o) (buffer_after known (dictionary_of s) buffer o) (calls_of w)).form) (fill_asked buffer long c b r.call (r.accepted room fits))
        ∙ steps_run (laid (frame known (dictionary_of s) (holding b)) buffer) (still_long buffer long b fits) b after w enough right

    all_run : (buffer : List ℕ) → length buffer ≡ room → (c : Contents) (w : Steps (FillStep (view_of known t)) (blank_contents (view_of known t)) c) → needed (view_of known t) c ≤ min room 16384 → closing_verdict (view_of known t) c ≡ fine → message_left known s buffer (begin n u ∷ calls_of w) ≡ closed (holding c)
    all_run buffer long c w enough right =
        let blank = blank_contents (view_of known t) in
        let l = never_shorter (view_of known t) blank c w in
        let fits : needed (view_of known t) blank ≤ min room 16384 = omega arith in
        ap (λ o. (run_by_messages known s (message_after no_form o) (buffer_after known (dictionary_of s) buffer o) (calls_of w)).form) (begin_asked buffer long fits)
        ∙ steps_run (laid (frame known (dictionary_of s) (holding blank)) buffer) (still_long buffer long blank fits) blank c w enough right

-- What closes is made by calls, on every buffer that has room.
pub made : (known : Known) → AllLawful known → (s : List ℕ) → Checked known s → (m : Message) → Closes known (dictionary_of s) m → (buffer : List ℕ) → length (frame known (dictionary_of s) m) ≤ length buffer → MadeIn known s m buffer
made known lawful s checked m h buffer fits =
    let v = view_of known h.template in
    let well : WellFormed known (dictionary_of s) = checked_is_well_formed known (passes_exactly known) s checked in
    let good = found_good known lawful (dictionary_of s) well m.template m.version h.template h.found in
    let w = contents_reached v m.contents (view_good known lawful m.version h.template good.0) h.right in
    let e = frame_long known s checked m.template m.version h.template h.found h.version m.contents in
    let short = h.short in
    let enough : needed v m.contents ≤ min (length buffer) 16384 = omega arith in
    let number : m.template < 2 ^ 16 = subst (λ x. x < 2 ^ 16) good.1 good.0.number_fits in
    let most = well.version_fits in
    let below = h.version in
    let version : m.version < 2 ^ 16 = omega arith in
    record {
      calls = begin m.template m.version ∷ calls_of w;
      sayable = ((number, version), calls_sayable w);
      left = all_run known s checked m.template m.version h.template h.found h.version (length buffer) buffer refl m.contents w enough (closes_fine v m.contents h.right (omega arith));
    }
