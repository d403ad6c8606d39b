-- Lines in order are a template's lines, and a template is read back from its lines.
use Rattle.std.proofs.Common.{◌≡◌, ℕ, suc, ◌+◌, List, [], ◌∷◌, ◌++◌, map, Some, None, Option, sym, refl, ap, ◌∙◌, ap₂, append_assoc, append-nil}
use Rattle.std.specs.List.{flat_map}
use Rattle.wire.specs.declared.refusal.Reason.TheVariants as reason
use Rattle.wire.specs.Refusals.{refusal}
use Rattle.schema.specs.Verdicts.{fine, rule, ◌then◌}
use Rattle.schema.specs.Structure.{Field, Group, Data, Template}
use Rattle.schema.specs.Lines.{Line, field, group, end, part, line_size}
use Rattle.schema.specs.Shape.{Stage, root, inside, behind, closing, Above, nothing_above, in_order, well_named, past, lines_shape}
use Rattle.schema.specs.Reading.{fields_of, groups_of, parts_of}
use Rattle.schema.specs.Writing.{group_lines, template_lines}
use Rattle.schema.proofs.Verdicts.{never, both}
use Rattle.schema.proofs.CutForms.{Whole}

abbrev pub above : Stage → List ℕ → List ℕ → ℕ → ℕ → Above
above s outer inner groups parts = record { stage = s; outer = outer; inner = inner; groups = groups; parts = parts }

-- lines that pass, pass one by one
pub each_line : (a : Above) (p : ℕ) (l : Line) (ls : List (Option Line)) → lines_shape a p (Some l ∷ ls) ≡ fine → (rule (in_order a.stage l) reason.LineShape p 0 ≡ fine) × (lines_shape (past a p l) (p + line_size l) ls ≡ fine)
each_line a p l ls e =
    let x = both (rule (in_order a.stage l) reason.LineShape p 0) (rule (well_named a l) reason.LineName p 0 then lines_shape (past a p l) (p + line_size l) ls) e in
    let y = both (rule (well_named a l) reason.LineName p 0) (lines_shape (past a p l) (p + line_size l) ls) x.1 in
    (x.0, y.1)

pub lines_whole : (a : Above) (p : ℕ) (ls : List (Option Line)) → lines_shape a p ls ≡ fine → Whole ls
lines_whole a p [] e = tt
lines_whole a p (None ∷ ls) e = never (refusal reason.LineShape p 0) e
lines_whole a p (Some l ∷ ls) e = lines_whole (past a p l) (p + line_size l) ls (each_line a p l ls e).1

-- what stands behind the fields of a block
abbrev tail_lines : List Line → List Line
tail_lines ls = flat_map group_lines (groups_of ls) ++ map part (parts_of ls)

-- the lines that may follow in a stage, as they are read
abbrev InStage : Stage → List Line → Type 0
InStage root ls = ls ≡ map field (fields_of ls) ++ tail_lines ls
InStage (inside p) ls = ls ≡ map field (fields_of ls) ++ (end ∷ tail_lines ls)
InStage behind ls = (fields_of ls ≡ []) × (ls ≡ tail_lines ls)
InStage closing ls = (fields_of ls ≡ []) × (groups_of ls ≡ []) × (ls ≡ map part (parts_of ls))

-- a group's line, its fields, its end
opened : (p tag size : ℕ) (ls : List Line) → InStage (inside p) ls → group tag size ∷ ls ≡ tail_lines (group tag size ∷ ls)
opened p tag size ls h = ap (λ ms. group tag size ∷ ms) (h ∙ simp append_assoc)

closed : (d : Data) (ls : List Line) → InStage closing ls → part d ∷ ls ≡ tail_lines (part d ∷ ls)
closed d ls h = ap (λ ms. part d ∷ ms) h.2 ∙ ap (λ gs. flat_map group_lines gs ++ (part d ∷ map part (parts_of ls))) (sym h.1)

in_stage : (ls : List Line) (s : Stage) (outer inner : List ℕ) (groups parts p : ℕ) → lines_shape (above s outer inner groups parts) p (map Some ls) ≡ fine → InStage s ls
in_stage [] root o i g n p e = refl
in_stage [] (inside q) o i g n p e = never (refusal reason.LineShape q 0) e
in_stage [] behind o i g n p e = (refl, refl)
in_stage [] closing o i g n p e = (refl, refl, refl)
in_stage (field f ∷ ls) root o i g n p e =
    let x = (each_line (above root o i g n) p (field f) (map Some ls) e).1 in
    ap (λ ms. field f ∷ ms) (in_stage ls root (f.tag ∷ o) (f.tag ∷ i) g n (p + line_size (field f)) x)
in_stage (field f ∷ ls) (inside q) o i g n p e =
    let x = (each_line (above (inside q) o i g n) p (field f) (map Some ls) e).1 in
    ap (λ ms. field f ∷ ms) (in_stage ls (inside q) o (f.tag ∷ i) g n (p + line_size (field f)) x)
in_stage (field f ∷ ls) behind o i g n p e = never (refusal reason.LineShape p 0) e
in_stage (field f ∷ ls) closing o i g n p e = never (refusal reason.LineShape p 0) e
in_stage (group tag size ∷ ls) root o i g n p e =
    let x = (each_line (above root o i g n) p (group tag size) (map Some ls) e).1 in
    opened p tag size ls (in_stage ls (inside p) (tag ∷ o) [] (suc g) n (p + 8) x)
in_stage (group tag size ∷ ls) (inside q) o i g n p e = never (refusal reason.LineShape p 0) e
in_stage (group tag size ∷ ls) behind o i g n p e =
    let x = (each_line (above behind o i g n) p (group tag size) (map Some ls) e).1 in
    (refl, opened p tag size ls (in_stage ls (inside p) (tag ∷ o) [] (suc g) n (p + 8) x))
in_stage (group tag size ∷ ls) closing o i g n p e = never (refusal reason.LineShape p 0) e
in_stage (end ∷ ls) root o i g n p e = never (refusal reason.LineShape p 0) e
in_stage (end ∷ ls) (inside q) o i g n p e =
    let x = (each_line (above (inside q) o i g n) p end (map Some ls) e).1 in
    ap (λ ms. end ∷ ms) (in_stage ls behind o [] g n (p + 2) x).1
in_stage (end ∷ ls) behind o i g n p e = never (refusal reason.LineShape p 0) e
in_stage (end ∷ ls) closing o i g n p e = never (refusal reason.LineShape p 0) e
in_stage (part d ∷ ls) root o i g n p e =
    let x = (each_line (above root o i g n) p (part d) (map Some ls) e).1 in
    closed d ls (in_stage ls closing (d.tag ∷ o) [] g (suc n) (p + 9) x)
in_stage (part d ∷ ls) (inside q) o i g n p e = never (refusal reason.LineShape p 0) e
in_stage (part d ∷ ls) behind o i g n p e =
    let x = (each_line (above behind o i g n) p (part d) (map Some ls) e).1 in
    (refl, closed d ls (in_stage ls closing (d.tag ∷ o) [] g (suc n) (p + 9) x))
in_stage (part d ∷ ls) closing o i g n p e =
    let x = (each_line (above closing o i g n) p (part d) (map Some ls) e).1 in
    let r = in_stage ls closing (d.tag ∷ o) [] g (suc n) (p + 9) x in
    (refl, r.1, ap (λ ms. part d ∷ ms) r.2)

-- lines that pass are those of the template that they read as
pub in_order_is : (ls : List Line) (p : ℕ) → lines_shape nothing_above p (map Some ls) ≡ fine → ls ≡ map field (fields_of ls) ++ (flat_map group_lines (groups_of ls) ++ map part (parts_of ls))
in_order_is ls p e = in_stage ls root [] [] 0 0 p e

-- a template's lines, read: its fields, groups and data

fields_in_front : (fs : List Field) (ls : List Line) → fields_of (map field fs ++ ls) ≡ fs ++ fields_of ls
fields_in_front [] ls = refl
fields_in_front (f ∷ fs) ls = ap (λ gs. f ∷ gs) (fields_in_front fs ls)

groups_behind : (fs : List Field) (ls : List Line) → groups_of (map field fs ++ ls) ≡ groups_of ls
groups_behind [] ls = refl
groups_behind (f ∷ fs) ls = groups_behind fs ls

parts_behind : (fs : List Field) (ls : List Line) → parts_of (map field fs ++ ls) ≡ parts_of ls
parts_behind [] ls = refl
parts_behind (f ∷ fs) ls = parts_behind fs ls

no_groups : (ds : List Data) → groups_of (map part ds) ≡ []
no_groups [] = refl
no_groups (d ∷ ds) = no_groups ds

parts_back : (ds : List Data) → parts_of (map part ds) ≡ ds
parts_back [] = refl
parts_back (d ∷ ds) = ap (λ es. d ∷ es) (parts_back ds)

no_fields : (gs : List Group) (ds : List Data) → fields_of (flat_map group_lines gs ++ map part ds) ≡ []
no_fields [] [] = refl
no_fields [] (d ∷ ds) = refl
no_fields (g ∷ gs) ds = refl

-- the lines behind a group's own
pub group_tail : (g : Group) (gs : List Group) (ls : List Line) → flat_map group_lines (g ∷ gs) ++ ls ≡ group g.tag g.block.size ∷ (map field g.block.fields ++ (end ∷ (flat_map group_lines gs ++ ls)))
group_tail g gs ls = ap (λ ms. group g.tag g.block.size ∷ ms) (simp append_assoc)

groups_back : (gs : List Group) (ds : List Data) → groups_of (flat_map group_lines gs ++ map part ds) ≡ gs
groups_back [] ds = no_groups ds
groups_back (g ∷ gs) ds =
    ap groups_of (group_tail g gs (map part ds))
    ∙ ap₂ (λ fs hs. record { tag = g.tag; block = record { size = g.block.size; fields = fs } } ∷ hs)
    (fields_in_front g.block.fields (end ∷ (flat_map group_lines gs ++ map part ds)) ∙ append-nil g.block.fields)
    (groups_behind g.block.fields (end ∷ (flat_map group_lines gs ++ map part ds)) ∙ groups_back gs ds)

parts_of_tail : (gs : List Group) (ds : List Data) → parts_of (flat_map group_lines gs ++ map part ds) ≡ ds
parts_of_tail [] ds = parts_back ds
parts_of_tail (g ∷ gs) ds =
    ap parts_of (group_tail g gs (map part ds))
    ∙ parts_behind g.block.fields (end ∷ (flat_map group_lines gs ++ map part ds))
    ∙ parts_of_tail gs ds

pub fields_read : (t : Template) → fields_of (template_lines t) ≡ t.root.fields
fields_read t =
    fields_in_front t.root.fields (flat_map group_lines t.groups ++ map part t.parts)
    ∙ ap (λ fs. t.root.fields ++ fs) (no_fields t.groups t.parts)
    ∙ append-nil t.root.fields

pub groups_read : (t : Template) → groups_of (template_lines t) ≡ t.groups
groups_read t = groups_behind t.root.fields (flat_map group_lines t.groups ++ map part t.parts) ∙ groups_back t.groups t.parts

pub parts_read : (t : Template) → parts_of (template_lines t) ≡ t.parts
parts_read t = parts_behind t.root.fields (flat_map group_lines t.groups ++ map part t.parts) ∙ parts_of_tail t.groups t.parts
