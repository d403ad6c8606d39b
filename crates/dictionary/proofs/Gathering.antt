-- What is gathered of a tag is what stands above.
use Rattle.std.proofs.Common.{◌≡◌, ℕ, ◌+◌, ◌-◌, ◌<◌, ◌≤◌, Bool, true, false, cond, ◌||◌, eqb, List, [], ◌∷◌, ◌++◌, length, take, drop, Some, None, Ok, Err, Result, sym, refl, ap, ◌∙◌, subst, ap₂, add-one, arith, length-drop}
use Rattle.std.proofs.lemmas.List.{drop-drop, take_all}
use Rattle.schema.specs.Lines.{Line, field, group, end, part, line_size, first_line, lines, there}
use Rattle.schema.specs.Shape.{Above, Stage, root, inside, behind, closing, nothing_above, past, member, in_order, well_named, ended, lines_shape}
use Rattle.schema.specs.Verdicts.{Verdict, fine, rule, ◌then◌}
use Rattle.wire.specs.Refusals.{bind, refusal}
use Rattle.wire.specs.declared.refusal.Refusal.{Refusal}
use Rattle.wire.specs.declared.refusal.Reason.TheVariants as reason
use Rattle.schema.proofs.Pieces.{AllThere, there_push, all_there_push, up_to_piece}
use Rattle.schema.proofs.LinePieces.{line_pieces, lines_none}
use Rattle.dictionary.proofs.Cutting.{line_cut, broken_line, none_left}
use Rattle.dictionary.specs.declared.shape.Survey.{Survey}
use Rattle.dictionary.specs.declared.shape.Stage.TheVariants as code
use Rattle.dictionary.specs.Shown.{tag_of}
use Rattle.dictionary.specs.Surveys.{staged, coded, gathered, gathered_past, gathered_from, nothing_gathered, above_from, named, line_judged, line_weighed}

pub staged_coded : (s : Stage) → staged (coded s) ≡ s
staged_coded root = refl
staged_coded (inside p) = refl
staged_coded behind = refl
staged_coded closing = refl

-- how many bytes lines have
abbrev pub total : List Line → ℕ
total [] = 0
total (l ∷ ls) = line_size l + total ls

abbrev above : Stage → List ℕ → List ℕ → ℕ → ℕ → Above
above stage outer inner groups parts = record { stage = stage; outer = outer; inner = inner; groups = groups; parts = parts }

-- a line more, whichever way it is put
one_more : (tag : ℕ) (stage : Stage) (outer inner : List ℕ) (groups parts p : ℕ) (l : Line) → gathered_past tag (gathered tag (above stage outer inner groups parts)) p l ≡ gathered tag (past (above stage outer inner groups parts) p l)
one_more tag root outer inner groups parts p (field f) =
    λ i. record { stage = code.Root; outer = eqb f.tag tag || member tag outer; inner = eqb f.tag tag || member tag inner; fields = add-one (length inner) i; groups = groups; parts = parts }
one_more tag (inside q) outer inner groups parts p (field f) =
    λ i. record { stage = code.Inside q; outer = member tag outer; inner = eqb f.tag tag || member tag inner; fields = add-one (length inner) i; groups = groups; parts = parts }
one_more tag behind outer inner groups parts p (field f) = refl
one_more tag closing outer inner groups parts p (field f) = refl
one_more tag stage outer inner groups parts p (group t size) =
    λ i. record { stage = code.Inside p; outer = eqb t tag || member tag outer; inner = false; fields = 0; groups = add-one groups i; parts = parts }
one_more tag stage outer inner groups parts p end = refl
one_more tag stage outer inner groups parts p (part d) =
    λ i. record { stage = code.Closing; outer = eqb d.tag tag || member tag outer; inner = false; fields = 0; groups = groups; parts = add-one parts i }

pub all_gathered : (tag : ℕ) (a : Above) (p : ℕ) (ls : List Line) → gathered_from tag (gathered tag a) p ls ≡ gathered tag (above_from a p ls)
all_gathered tag a p [] = refl
all_gathered tag a p (l ∷ ls) =
    ap (λ s. gathered_from tag s (p + line_size l) ls) (one_more tag a.stage a.outer a.inner a.groups a.parts p l)
    ∙ all_gathered tag (past a p l) (p + line_size l) ls

same_named : (stage : Stage) (outer inner : List ℕ) (groups parts : ℕ) (l : Line) → named (gathered (tag_of l) (above stage outer inner groups parts)) l ≡ well_named (above stage outer inner groups parts) l
same_named root outer inner groups parts (field f) = refl
same_named (inside q) outer inner groups parts (field f) = refl
same_named behind outer inner groups parts (field f) = refl
same_named closing outer inner groups parts (field f) = refl
same_named stage outer inner groups parts (group t size) = refl
same_named stage outer inner groups parts end = refl
same_named stage outer inner groups parts (part d) = refl

-- judging a line by what is gathered is judging it by what is above
pub weighed_judged : (a : Above) (p : ℕ) (l : Line) → line_weighed (gathered (tag_of l) a) p l ≡ line_judged a p (Some l)
weighed_judged a p l =
    ap₂ (λ s b. bind (rule (in_order s l) reason.LineShape p 0) (λ _. bind (rule b reason.LineName p 0) (λ _. Ok (line_size l))))
    (staged_coded a.stage) (same_named a.stage a.outer a.inner a.groups a.parts l)

above_push : (a : Above) (p : ℕ) (ls : List Line) (l : Line) → above_from a p (ls ++ (l ∷ [])) ≡ past (above_from a p ls) (p + total ls) l
above_push a p [] l = ap (λ q. past a q l) (omega arith)
above_push a p (k ∷ ls) l =
    above_push (past a p k) (p + line_size k) ls l
    ∙ ap (λ q. past (above_from (past a p k) (p + line_size k) ls) q l) (omega arith)

pub judged : (before : List ℕ) (place q tag : ℕ) (l : Line) (s : Survey) (r : Result ℕ Refusal) → s ≡ gathered_from tag nothing_gathered place (there (lines before)) → tag ≡ tag_of l → r ≡ line_weighed s q l → r ≡ line_judged (above_from nothing_above place (there (lines before))) q (Some l)
judged before place q tag l s r gather brings weigh =
    let a = above_from nothing_above place (there (lines before)) in
    weigh
    ∙ ap (λ x. line_weighed x q l) (gather ∙ all_gathered tag nothing_above place (there (lines before)))
    ∙ ap (λ t. line_weighed (gathered t a) q l) brings
    ∙ weighed_judged a q l

-- the line at a place, judged by the bytes above it
pub judged_at : (body before : List ℕ) (place at : ℕ) (l : Line) (r : Result ℕ Refusal) → before ≡ take at body → length before ≡ at → r ≡ line_judged (above_from nothing_above place (there (lines before))) (place + length before) (Some l) → line_judged (above_from nothing_above place (there (lines (take at body)))) (place + at) (Some l) ≡ r
judged_at body before place at l r is long e =
    sym (e ∙ ap₂ (λ b n. line_judged (above_from nothing_above place (there (lines b))) (place + n) (Some l)) is long)

-- ---- the loop over a template's lines

-- the lines up to a place are all there, and have so many bytes; what is left to judge gives what the whole gives
pub record Reached (body : List ℕ) (place at : ℕ) (rest : List ℕ) : Type 0 where
  pub within : at ≤ length body
  pub left : rest ≡ drop at body
  pub whole : AllThere (lines (take at body))
  pub sized : total (there (lines (take at body))) ≡ at
  pub same : lines_shape (above_from nothing_above place (there (lines (take at body)))) (place + at) (lines rest) ≡ lines_shape nothing_above place (lines body)

pub reached_none : (body rest : List ℕ) (place : ℕ) → rest ≡ body → Reached body place 0 rest
reached_none body rest place is =
    record {
      within = omega arith;
      left = is;
      whole = rw lines_none refl;
      sized = rw lines_none refl;
      same = rw lines_none (ap₂ (λ p s. lines_shape nothing_above p (lines s)) (omega arith) is);
    }

total_push : (ls : List Line) (l : Line) → total (ls ++ (l ∷ [])) ≡ total ls + line_size l
total_push [] l = omega arith
total_push (k ∷ ls) l = let e = total_push ls l in omega arith

-- a line that is judged, and the lines below it

step_passes : (x y : Bool) (e f : Refusal) (m n : ℕ) (k : Verdict) → bind (cond x fine (Err e)) (λ _. bind (cond y fine (Err f)) (λ _. Ok m)) ≡ Ok n → (n ≡ m) × ((cond x fine (Err e) then cond y fine (Err f) then k) ≡ k)
step_passes true true e f m n k h = (cc, refl)
step_passes true false e f m n k h = let z : ◌≡◌ {A = ℕ} 0 1 = cc in absurd (omega arith)
step_passes false y e f m n k h = let z : ◌≡◌ {A = ℕ} 0 1 = cc in absurd (omega arith)

step_refuses : (x y : Bool) (e f g : Refusal) (m : ℕ) (k : Verdict) → bind (cond x fine (Err e)) (λ _. bind (cond y fine (Err f)) (λ _. Ok m)) ≡ Err g → (cond x fine (Err e) then cond y fine (Err f) then k) ≡ Err g
step_refuses true true e f g m k h = let z : ◌≡◌ {A = ℕ} 0 1 = cc in absurd (omega arith)
step_refuses true false e f g m k h = cc
step_refuses false y e f g m k h = cc

pub reached_more : (body rest rest' : List ℕ) (place at n : ℕ) (l : Line) → Reached body place at rest → first_line rest ≡ Some l → rest' ≡ drop (line_size l) rest → line_judged (above_from nothing_above place (there (lines (take at body)))) (place + at) (Some l) ≡ Ok n → Reached body place (at + n) rest' × (length rest' < length rest)
reached_more body rest rest' place at n l r f cut e =
    let ls = there (lines (take at body)) in
    let a = above_from nothing_above place ls in
    let p = place + at in
    let go = step_passes (in_order a.stage l) (well_named a l) (refusal reason.LineShape p 0) (refusal reason.LineName p 0) (line_size l) n (lines_shape (past a p l) (p + line_size l) (lines rest')) e in
    let size = go.0 in
    let c = line_cut rest rest' l f cut in
    let some = c.some in
    let less = c.long in
    let was = r.sized in
    let pushed = total_push ls l in
    let long : length rest ≡ length body - at = ap length r.left ∙ length-drop at body in
    let more : lines (take (at + n) body) ≡ lines (take at body) ++ (Some l ∷ []) =
    ap (λ m. lines (take (at + m) body)) size ∙ up_to_piece first_line line_size lines line_pieces body at l (omega arith) (ap first_line (sym r.left) ∙ f) r.whole in
    let there_more : there (lines (take (at + n) body)) ≡ ls ++ (l ∷ []) = ap there more ∙ there_push (lines (take at body)) l r.whole in
    let above_more : above_from nothing_above place (there (lines (take (at + n) body))) ≡ past a p l =
    ap (above_from nothing_above place) there_more ∙ above_push nothing_above place ls l ∙ ap (λ t. past a (place + t) l) r.sized in
    let q : place + (at + n) ≡ p + line_size l = omega arith in (
      record {
        within = omega arith;
        left = cut ∙ ap (drop (line_size l)) r.left ∙ drop-drop (line_size l) at body ∙ ap (λ m. drop (at + m) body) (sym size);
        whole = subst AllThere (sym more) (all_there_push (lines (take at body)) l r.whole);
        sized = ap total there_more ∙ omega arith;
        same =
            ap₂ (λ x k. lines_shape x k (lines rest')) above_more q
            ∙ sym go.1
            ∙ ap (lines_shape a p) (sym c.all)
            ∙ r.same;
      },
      omega arith,
    )

pub reached_refused : (body rest rest' : List ℕ) (place at : ℕ) (l : Line) (g : Refusal) → Reached body place at rest → first_line rest ≡ Some l → rest' ≡ drop (line_size l) rest → line_judged (above_from nothing_above place (there (lines (take at body)))) (place + at) (Some l) ≡ Err g → Err g ≡ lines_shape nothing_above place (lines body)
reached_refused body rest rest' place at l g r f cut e =
    let a = above_from nothing_above place (there (lines (take at body))) in
    let p = place + at in
    sym (step_refuses (in_order a.stage l) (well_named a l) (refusal reason.LineShape p 0) (refusal reason.LineName p 0) g (line_size l) (lines_shape (past a p l) (p + line_size l) (lines rest')) e)
    ∙ ap (lines_shape a p) (sym (line_cut rest rest' l f cut).all)
    ∙ r.same

-- what is left is no line
pub reached_broken : (body rest : List ℕ) (place at : ℕ) → Reached body place at rest → first_line rest ≡ None → 0 < length rest → Err (refusal reason.LineShape (place + at) 0) ≡ lines_shape nothing_above place (lines body)
reached_broken body rest place at r f h =
    ap (lines_shape (above_from nothing_above place (there (lines (take at body)))) (place + at)) (sym (broken_line rest f h)) ∙ r.same

-- at the end what is left is whether a group stands open
pub reached_end : (body rest : List ℕ) (place at : ℕ) (s : Survey) (v : Verdict) → Reached body place at rest → length rest ≤ 0 → s ≡ gathered_from 0 nothing_gathered place (there (lines body)) → v ≡ ended (staged s.stage) → v ≡ lines_shape nothing_above place (lines body)
reached_end body rest place at s v r h gather e =
    let a = above_from nothing_above place (there (lines body)) in
    let long : length rest ≡ length body - at = ap length r.left ∙ length-drop at body in
    e
    ∙ ap (λ x. ended (staged x.stage)) (gather ∙ all_gathered 0 nothing_above place (there (lines body)))
    ∙ ap ended (staged_coded a.stage)
    ∙ ap (λ t. ended (above_from nothing_above place (there (lines t))).stage) (sym (take_all at body (omega arith)))
    ∙ ap (lines_shape (above_from nothing_above place (there (lines (take at body)))) (place + at)) (sym (none_left first_line line_size lines line_pieces rest h))
    ∙ r.same
