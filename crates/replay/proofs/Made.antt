-- A list of one call.
use Rattle.std.proofs.Common.{◌≡◌, ℕ, List, [], ◌∷◌, ◌++◌, map, length, get_or, drop, ap, ◌∙◌, arith}
use Rattle.types.specs.Kinds.{Known}
use Rattle.calls.specs.Calls as calls
use Rattle.calls.specs.Calls.{Numbers}
use Rattle.calls.specs.Runs.{Run, run_by_buffer}
use Rattle.replay.specs.declared.asked.Answer.{Answer}
use Rattle.replay.specs.declared.asked.Call.{Call}
use Rattle.replay.specs.declared.held.Form.{Form}
use Rattle.replay.specs.Shown.{shown_call, shown_form, shown_answer, made_calls, answers_of}
use Rattle.replay.specs.Turns.{Turned}

module _ (known : Known) (s : List ℕ) (st : calls.Form Numbers) (buffer : List ℕ) (k : Call) where
  abbrev one : List Call → Run Numbers
  one ks = run_by_buffer known s st buffer (made_calls 1 ks)

  first : (given : List Answer) (d : Answer) (a : calls.Answer) → length given ≡ 1 → map shown_answer given ≡ a ∷ [] → shown_answer (get_or given 0 d) ≡ a
  first [] d a l e = absurd (omega (arith, l))
  first (x ∷ given) d a l e = ap (λ (t : List calls.Answer). get_or t 0 a) e

  pub one_call : (ks : List Call) (f : Form) (given : List Answer) (b d : Answer) (new : List ℕ) → ks ≡ k ∷ [] → length given ≡ 1 → shown_form f ≡ (one ks).form → new ≡ (one ks).buffer → map shown_answer given ≡ answers_of (one ks) ++ drop (length (made_calls 1 ks)) (map shown_answer (b ∷ [])) → Turned known s st buffer (shown_call k) f (get_or given 0 d) new
  one_call ks f given b d new e l p q r =
      record {
        form_left = p ∙ ap (λ (x : List Call). (one x).form) e;
        said = first given d _ l (r ∙ ap (λ (x : List Call). answers_of (one x) ++ drop (length (made_calls 1 x)) (map shown_answer (b ∷ []))) e);
        buffer_left = q ∙ ap (λ (x : List Call). (one x).buffer) e;
      }
