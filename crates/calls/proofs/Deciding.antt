-- Of the buffer, only the length decides what calls answer and which message they add up to.
use Rattle.std.proofs.Common.{◌≡◌, ℕ, List, [], ◌∷◌, map, length, sym, refl, ap, ◌∙◌, subst}
use Rattle.std.specs.List.{AllByRecursion}
use Rattle.types.specs.Kinds.{Known, AllLawful}
use Rattle.schema.specs.Reading.{dictionary_of}
use Rattle.schema.specs.Laws.{Checked}
use Rattle.message.specs.Messages.{Message}
use Rattle.calls.specs.Calls.{Call, SayableCall, Form, no_form, by_messages, asked, Answer, answer_of, buffer_after, message_after}
use Rattle.calls.specs.Runs.{Turn, asked_by_messages, run_by_messages}
use Rattle.calls.specs.Laws.{IsWhatItsMessagesSay, TheLengthAloneDecides}
use Rattle.calls.proofs.Outcomes.{Becomes}
use Rattle.calls.proofs.Runs.{Good, InFront, asked_kept, good_in_front, left_in_front}

abbrev answers_of : List Turn → List Answer
answers_of ts = map (λ t. t.said) ts

module _ (known : Known) (lawful : AllLawful known) (s : List ℕ) (checked : Checked known s) where
  -- the same calls on the same form, by their messages, on two buffers
  record Decided (st : Form Message) (buffer buffer' : List ℕ) (ks : List Call) : Type 0 where
    said : answers_of (run_by_messages known s st buffer ks).turns ≡ answers_of (run_by_messages known s st buffer' ks).turns
    left : (run_by_messages known s st buffer ks).form ≡ (run_by_messages known s st buffer' ks).form

  decided : (st : Form Message) (buffer buffer' : List ℕ) (ks : List Call) → AllByRecursion SayableCall ks → InFront known lawful s checked st buffer → InFront known lawful s checked st buffer' → length buffer' ≡ length buffer → Decided st buffer buffer' ks
  decided st buffer buffer' [] y h h' long = record { said = refl; left = refl }
  decided st buffer buffer' (k ∷ ks) y h h' long =
      let o = asked_by_messages known s st buffer k in
      let same : asked_by_messages known s st buffer' k ≡ o = ap (λ n. asked known s by_messages n st k) long in
      let g : Becomes (Good known lawful s checked (length buffer)) o = asked_kept known lawful s checked (length buffer) st k y.0 (good_in_front known lawful s checked st buffer h) in
      let g' : Becomes (Good known lawful s checked (length buffer')) o = subst (λ n. Becomes (Good known lawful s checked n) o) (sym long) g in
      let l = left_in_front known lawful s checked st buffer o h g in
      let l' = left_in_front known lawful s checked st buffer' o h' g' in
      let rest = decided (message_after st o) (buffer_after known (dictionary_of s) buffer o) (buffer_after known (dictionary_of s) buffer' o) ks y.1 l.0 l'.0 (l'.1 ∙ long ∙ sym l.1) in
      record {
        said =
            ap (λ x. answer_of o ∷ x) rest.said
            ∙ ap (λ x. answer_of x ∷ answers_of (run_by_messages known s (message_after st x) (buffer_after known (dictionary_of s) buffer' x) ks).turns) (sym same);
        left = rest.left ∙ ap (λ x. (run_by_messages known s (message_after st x) (buffer_after known (dictionary_of s) buffer' x) ks).form) (sym same);
      }

  pub the_length_alone_decides : (buffer : List ℕ) (ks : List Call) → AllByRecursion SayableCall ks → ((b : List ℕ) → IsWhatItsMessagesSay known s b ks) → TheLengthAloneDecides known s buffer ks
  the_length_alone_decides buffer ks sayable says buffer' _ long =
      let d = decided no_form buffer buffer' ks sayable tt tt long in
      record { answers = ap answers_of (says buffer).turns ∙ d.said ∙ sym (ap answers_of (says buffer').turns); message = d.left }
