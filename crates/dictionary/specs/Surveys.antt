-- What the lines above a line say of one tag, as the code gathers it. Assumes nothing.
use Rattle.std.specs.Prelude.{ℕ, ◌+◌, Bool, true, false, not, ◌&&◌, ◌||◌, List, [], ◌∷◌, length, Some, None, Ok, Err, Option, Result, ◌==◌, nat_lt}
use Rattle.wire.specs.declared.refusal.Reason.TheVariants as reason
use Rattle.wire.specs.declared.refusal.Refusal.{Refusal}
use Rattle.wire.specs.Refusals.{refusal, bind}
use Rattle.schema.specs.Verdicts.{rule}
use Rattle.schema.specs.Lines.{Line, field, group, end, part, line_size}
use Rattle.schema.specs.Shape.{Above, past, member, in_order, well_named}
use Rattle.schema.specs.Shape.{Stage as SpecStage, root, inside, behind, closing}
use Rattle.dictionary.specs.declared.shape.Stage.{Stage}
use Rattle.dictionary.specs.declared.shape.Stage.TheVariants as code
use Rattle.dictionary.specs.declared.shape.Survey.{Survey}

-- the stage that a stage of the code is
abbrev pub staged : Stage → SpecStage
staged code.Root = root
staged (code.Inside p) = inside p
staged code.Behind = behind
staged code.Closing = closing

-- the stage of the code for a stage
abbrev pub coded : SpecStage → Stage
coded root = code.Root
coded (inside p) = code.Inside p
coded behind = code.Behind
coded closing = code.Closing

-- what is gathered of a tag, from all that is above
abbrev pub gathered : ℕ → Above → Survey
gathered tag a = record { stage = coded a.stage; outer = member tag a.outer; inner = member tag a.inner; fields = length a.inner; groups = a.groups; parts = a.parts }

abbrev pub nothing_gathered : Survey
nothing_gathered = record { stage = code.Root; outer = false; inner = false; fields = 0; groups = 0; parts = 0 }

-- one line more
abbrev pub gathered_field : Stage → ℕ → Survey → ℕ → Survey
gathered_field code.Root tag s t = record { stage = s.stage; outer = t == tag || s.outer; inner = t == tag || s.inner; fields = s.fields + 1; groups = s.groups; parts = s.parts }
gathered_field (code.Inside p) tag s t = record { stage = s.stage; outer = s.outer; inner = t == tag || s.inner; fields = s.fields + 1; groups = s.groups; parts = s.parts }
gathered_field code.Behind tag s t = s
gathered_field code.Closing tag s t = s

abbrev pub gathered_past : ℕ → Survey → ℕ → Line → Survey
gathered_past tag s place (field f) = gathered_field s.stage tag s f.tag
gathered_past tag s place (group t size) = record { stage = code.Inside place; outer = t == tag || s.outer; inner = false; fields = 0; groups = s.groups + 1; parts = s.parts }
gathered_past tag s place end = record { stage = code.Behind; outer = s.outer; inner = false; fields = 0; groups = s.groups; parts = s.parts }
gathered_past tag s place (part d) = record { stage = code.Closing; outer = d.tag == tag || s.outer; inner = false; fields = 0; groups = s.groups; parts = s.parts + 1 }

-- all lines, from a place on
abbrev pub gathered_from : ℕ → Survey → ℕ → List Line → Survey
gathered_from tag s p [] = s
gathered_from tag s p (l ∷ ls) = gathered_from tag (gathered_past tag s p l) (p + line_size l) ls

abbrev pub above_from : Above → ℕ → List Line → Above
above_from a p [] = a
above_from a p (l ∷ ls) = above_from (past a p l) (p + line_size l) ls

-- whether a line is well named, by what is gathered of its tag
abbrev pub new_among : ℕ → Bool → Bool
new_among tag found = not (tag == 0) && not found

abbrev pub own_tags : Stage → Bool → Bool → Bool
own_tags code.Root outer inner = outer
own_tags (code.Inside p) outer inner = inner
own_tags code.Behind outer inner = outer
own_tags code.Closing outer inner = outer

abbrev pub named : Survey → Line → Bool
named s (field f) = new_among f.tag (own_tags s.stage s.outer s.inner) && nat_lt s.fields 64
named s (group tag size) = new_among tag s.outer && nat_lt s.groups 8
named s end = true
named s (part d) = new_among d.tag s.outer && nat_lt s.parts 8

-- the size of a line at a place, judged by what is above it
abbrev pub line_judged : Above → ℕ → Option Line → Result ℕ Refusal
line_judged a p None = Err (refusal reason.LineShape p 0)
line_judged a p (Some l) = bind (rule (in_order a.stage l) reason.LineShape p 0) (λ _. bind (rule (well_named a l) reason.LineName p 0) (λ _. Ok (line_size l)))

-- the same, by what is gathered of its tag
abbrev pub line_weighed : Survey → ℕ → Line → Result ℕ Refusal
line_weighed s p l = bind (rule (in_order (staged s.stage) l) reason.LineShape p 0) (λ _. bind (rule (named s l) reason.LineName p 0) (λ _. Ok (line_size l)))
