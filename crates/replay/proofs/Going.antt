-- Calls made one after another: what is left gives what the whole gives.
use Rattle.std.proofs.Common.{◌≡◌, ℕ, ◌+◌, ◌<◌, ◌≤◌, min, List, [], ◌∷◌, ◌++◌, map, length, get_or, take, drop, set, sym, refl, ap, ◌∙◌, subst, arith, length-take}
use Rattle.std.specs.List.{AllByRecursion}
use Rattle.std.proofs.lemmas.List.{append_assoc, append-nil, at_drop_more, at_drop_all, take_more_set, take_all, drop-set-lt, drop-drop, drop-map, map-append, map_push, take-append-drop, length-map, get_or-take, get_or-map}
use Rattle.std.proofs.ByRecursion.{All-more}
use Rattle.wire.specs.Bytes.{Bytes}
use Rattle.types.specs.Kinds.{Known, AllLawful}
use Rattle.schema.specs.Reading.{dictionary_of}
use Rattle.schema.specs.Laws.{Checked}
use Rattle.calls.specs.Calls as calls
use Rattle.calls.specs.Calls.{Numbers, SayableCall, answer_of, form_after, buffer_after, no_form}
use Rattle.calls.specs.Runs.{Run, after_turn, turn_of, asked_by_buffer, run_by_buffer}
use Rattle.calls.specs.Laws.{KeepsTheLaw}
use Rattle.calls.proofs.Law.{every_list_keeps_the_law}
use Rattle.replay.specs.declared.asked.Answer.{Answer}
use Rattle.replay.specs.declared.asked.Call.{Call}
use Rattle.replay.specs.declared.held.Form.{Form}
use Rattle.replay.specs.Shown.{shown_call, shown_form, shown_answer, made_calls, answers_of}
use Rattle.replay.specs.Turns.{Turned}

module _ (known : Known) (s : List ℕ) (st₀ : calls.Form Numbers) (buffer₀ : List ℕ) (made : List calls.Call) (answers₀ : List Answer) where
  abbrev whole : Run Numbers
  whole = run_by_buffer known s st₀ buffer₀ made

  abbrev rest : ℕ → calls.Form Numbers → List ℕ → Run Numbers
  rest i st buffer = run_by_buffer known s st buffer (drop i made)

  -- i calls are made
  pub record Going (i : ℕ) (st : calls.Form Numbers) (buffer : List ℕ) (answers : List Answer) : Type 0 where
    pub within : i ≤ length made
    pub form_left : (rest i st buffer).form ≡ whole.form
    pub buffer_left : (rest i st buffer).buffer ≡ whole.buffer
    pub said : map shown_answer (take i answers) ++ answers_of (rest i st buffer) ≡ answers_of whole
    pub others : drop i answers ≡ drop i answers₀
    pub sayable : AllByRecursion SayableCall (take i made)

  pub begins : Going 0 st₀ buffer₀ answers₀
  begins = record { within = omega arith; form_left = refl; buffer_left = refl; said = refl; others = refl; sayable = tt }

  module _ (i : ℕ) (f : Form) (buffer : List ℕ) (answers : List Answer) (k : calls.Call) (g : Form) (a : Answer) (new : List ℕ) where
    -- a call, and then the rest
    turns_on : i < length made → get_or made i k ≡ k → Turned known s (shown_form f) buffer k g a new → rest i (shown_form f) buffer ≡ after_turn (turn_of known s buffer (asked_by_buffer known s (shown_form f) buffer k)) (rest (i + 1) (shown_form g) new)
    turns_on l e t =
        let o = asked_by_buffer known s (shown_form f) buffer k in
        let first : rest i (shown_form f) buffer ≡ run_by_buffer known s (shown_form f) buffer (get_or made i k ∷ drop (i + 1) made) = at_drop_more (run_by_buffer known s (shown_form f) buffer) made i k l in
        first
        ∙ ap (λ (x : calls.Call). run_by_buffer known s (shown_form f) buffer (x ∷ drop (i + 1) made)) e
        ∙ ap (λ (x : calls.Form Numbers). after_turn (turn_of known s buffer o) (run_by_buffer known s x (buffer_after known (dictionary_of s) buffer o) (drop (i + 1) made))) (sym t.form_left)
        ∙ ap (λ (x : List ℕ). after_turn (turn_of known s buffer o) (run_by_buffer known s (shown_form g) x (drop (i + 1) made))) (sym t.buffer_left)

    pub goes_on : i < length made → i < length answers → get_or made i k ≡ k → Turned known s (shown_form f) buffer k g a new → SayableCall k → Going i (shown_form f) buffer answers → Going (i + 1) (shown_form g) new (set answers i a)
    goes_on l m e t y h =
        let on = turns_on l e t in
        let next = rest (i + 1) (shown_form g) new in
        let so_far : map shown_answer (take (i + 1) (set answers i a)) ≡ map shown_answer (take i answers) ++ (shown_answer a ∷ []) =
        ap (map shown_answer) (take_more_set answers i a m) ∙ map_push shown_answer (take i answers) a in
        record {
          within = omega (arith, l);
          form_left = sym (ap (λ (r : Run Numbers). r.form) on) ∙ h.form_left;
          buffer_left = sym (ap (λ (r : Run Numbers). r.buffer) on) ∙ h.buffer_left;
          said =
              ap (λ (x : List calls.Answer). x ++ answers_of next) so_far
              ∙ append_assoc (map shown_answer (take i answers)) (shown_answer a ∷ []) (answers_of next)
              ∙ ap (λ (x : calls.Answer). map shown_answer (take i answers) ++ (x ∷ answers_of next)) t.said
              ∙ ap (λ (r : Run Numbers). map shown_answer (take i answers) ++ answers_of r) (sym on)
              ∙ h.said;
          others = drop-set-lt (i + 1) answers i a (omega arith) ∙ sym (drop-drop 1 i answers) ∙ ap (drop 1) h.others ∙ drop-drop 1 i answers₀;
          sayable = All-more SayableCall made i k l h.sayable (subst SayableCall (sym e) y);
        }

  module _ (i : ℕ) (f : Form) (buffer : List ℕ) (answers : List Answer) (h : Going i (shown_form f) buffer answers) (l : length made ≤ i) where
    none_left : rest i (shown_form f) buffer ≡ run_by_buffer known s (shown_form f) buffer []
    none_left = at_drop_all (run_by_buffer known s (shown_form f) buffer) made i l

    pub form_at_last : shown_form f ≡ whole.form
    form_at_last = sym (ap (λ (r : Run Numbers). r.form) none_left) ∙ h.form_left

    pub buffer_at_last : buffer ≡ whole.buffer
    buffer_at_last = sym (ap (λ (r : Run Numbers). r.buffer) none_left) ∙ h.buffer_left

    pub answers_at_last : map shown_answer answers ≡ answers_of whole ++ drop (length made) (map shown_answer answers₀)
    answers_at_last =
        let same : i ≡ length made = omega (arith, h.within, l) in
        let so_far : map shown_answer (take i answers) ≡ answers_of whole =
        sym (append-nil (map shown_answer (take i answers))) ∙ ap (λ (r : Run Numbers). map shown_answer (take i answers) ++ answers_of r) (sym none_left) ∙ h.said in
        let behind : map shown_answer (drop i answers) ≡ drop (length made) (map shown_answer answers₀) =
        ap (map shown_answer) h.others ∙ sym (drop-map shown_answer i answers₀) ∙ ap (λ (n : ℕ). drop n (map shown_answer answers₀)) same in
        ap (map shown_answer) (sym (take-append-drop i answers))
        ∙ map-append shown_answer (take i answers) (drop i answers)
        ∙ (λ j. so_far j ++ behind j)

    pub keeps_the_law : AllLawful known → Bytes buffer₀ → Checked known s → KeepsTheLaw known s buffer₀ made
    keeps_the_law lawful bytes checked = every_list_keeps_the_law known lawful s buffer₀ made checked bytes (subst (AllByRecursion SayableCall) (take_all i made l) h.sayable)

-- ---- the calls that are made

-- as many as there are calls and answers
pub as_many : (n : ℕ) (ks : List Call) → length (made_calls n ks) ≡ min n (length ks)
as_many n ks = length-take n (map shown_call ks) ∙ ap (min n) (length-map ks shown_call)

pub at_made : (n : ℕ) (ks : List Call) (i : ℕ) (d : Call) → i < n → i < length ks → get_or (made_calls n ks) i (shown_call (get_or ks i d)) ≡ shown_call (get_or ks i d)
at_made n ks i d l m = get_or-take n (map shown_call ks) i (shown_call (get_or ks i d)) l ∙ get_or-map shown_call ks i d (shown_call (get_or ks i d)) m
