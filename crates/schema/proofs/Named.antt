-- A template's lines pass as to shape and names exactly if its tags differ and there are not too many.
use Rattle.std.proofs.Common.{◌≡◌, ℕ, suc, ◌+◌, ◌<◌, ◌≤◌, true, not, ◌&&◌, eqb, ltb, List, [], ◌∷◌, ◌++◌, map, length, Some, Decides, Option, sym, refl, subst, ⊎_elim, arith}
use Rattle.std.specs.List.{flat_map, AllByRecursion}
use Rattle.std.proofs.lemmas.List.{length-map}
use Rattle.std.proofs.ByRecursion.{All-weaker}
use Rattle.std.proofs.lemmas.Bool.{false≢true}
use Rattle.std.proofs.lemmas.Bool.Decides.{eqb_tells, Decides-eqb, Decides-not, Decides-and, Decides-ltb}
use Rattle.wire.specs.declared.refusal.Reason.TheVariants as reason
use Rattle.wire.specs.Refusals.{refusal}
use Rattle.schema.specs.Verdicts.{fine, rule}
use Rattle.schema.specs.Structure.{Field, Group, Data, Template}
use Rattle.schema.specs.Lines.{Line, field, group, end, part, line_size}
use Rattle.schema.specs.Shape.{Stage, root, inside, behind, closing, Above, nothing_above, in_order, member, new_tag, well_named, past, ended, lines_shape}
use Rattle.schema.specs.Writing.{group_lines, template_lines}
use Rattle.schema.specs.WellFormed.{Distinct, outer_tags}
use Rattle.schema.proofs.Verdicts.{Iff, rule_iff, then_iff, iff_tt, iff_regroup}
use Rattle.schema.proofs.Ordered.{above, group_tail}

-- ---- tags that come one behind the other

abbrev New : ℕ → List ℕ → Type 0
New t above = (t ≡ 0 → ⊥) × AllByRecursion (λ u. u ≡ t → ⊥) above

decides_absent : (t : ℕ) (o : List ℕ) → Decides (not (member t o)) (AllByRecursion (λ u. u ≡ t → ⊥) o)
decides_absent t [] = ((λ _. tt), (λ _. refl))
decides_absent t (u ∷ o) =
    let r = decides_absent t o in
    ⊎_elim
    (λ a. rw a.0 ((λ e. absurd (false≢true e)), (λ h. absurd (h.0 a.1))))
    (λ a. rw a.0 ((λ e. (a.1, r.0 e)), (λ h. r.1 h.1)))
    (eqb_tells u t)

-- a new tag, and the place for one more
decides_named : (t : ℕ) (o : List ℕ) (n limit : ℕ) → Decides (new_tag t o && ltb n limit) (New t o × (n < limit))
decides_named t o n limit =
    Decides-and (new_tag t o) (ltb n limit)
    (Decides-and (not (eqb t 0)) (not (member t o)) (Decides-not (eqb t 0) (Decides-eqb t 0)) (decides_absent t o))
    (Decides-ltb n limit)

-- those above, with those that have come on top
abbrev onto : List ℕ → List ℕ → List ℕ
onto [] o = o
onto (t ∷ ts) o = onto ts (t ∷ o)

abbrev Fresh : List ℕ → List ℕ → Type 0
Fresh o [] = Unit {0}
Fresh o (t ∷ ts) = New t o × Fresh (t ∷ o) ts

fresh_append : (ts us o : List ℕ) → Iff (Fresh o (ts ++ us)) (Fresh o ts × Fresh (onto ts o) us)
fresh_append [] us o = ((λ h. (tt, h)), (λ h. h.1))
fresh_append (t ∷ ts) us o =
    let r = fresh_append ts us (t ∷ o) in
    ((λ h. let k = r.0 h.1 in ((h.0, k.0), k.1)), (λ h. (h.0.0, r.1 (h.0.1, h.1))))

-- none of the tags is among those above
abbrev Apart : List ℕ → List ℕ → Type 0
Apart o ts = AllByRecursion (λ t. AllByRecursion (λ u. u ≡ t → ⊥) o) ts

apart_more : (o ts : List ℕ) (t : ℕ) → AllByRecursion (λ u. u ≡ t → ⊥) ts → Apart o ts → Apart (t ∷ o) ts
apart_more o [] t h k = tt
apart_more o (u ∷ ts) t h k = (((λ e. h.0 (sym e)), k.0), apart_more o ts t h.1 k.1)

fresh_distinct : (ts o : List ℕ) → Iff (Fresh o ts) (Distinct ts × Apart o ts)
fresh_distinct [] o = ((λ _. (tt, tt)), (λ _. tt))
fresh_distinct (t ∷ ts) o =
    let r = fresh_distinct ts (t ∷ o) in (
      (λ h.
          let k = r.0 h.1 in (
            ((h.0.0, All-weaker (λ u. AllByRecursion (λ v. v ≡ u → ⊥) (t ∷ o)) (λ u. u ≡ t → ⊥) (λ u a e. a.0 (sym e)) ts k.1), k.0),
            (h.0.1, All-weaker (λ u. AllByRecursion (λ v. v ≡ u → ⊥) (t ∷ o)) (λ u. AllByRecursion (λ v. v ≡ u → ⊥) o) (λ u a. a.1) ts k.1),
          )),
      (λ h. ((h.0.0.0, h.1.0), r.1 (h.0.1, apart_more o ts t h.0.0.1 h.1.1))),
    )

apart_nothing : (ts : List ℕ) → Apart [] ts
apart_nothing [] = tt
apart_nothing (t ∷ ts) = (tt, apart_nothing ts)

distinct_iff : (ts : List ℕ) → Iff (Fresh [] ts) (Distinct ts)
distinct_iff ts = let r = fresh_distinct ts [] in ((λ h. (r.0 h).0), (λ h. r.1 (h, apart_nothing ts)))

-- and not too many
abbrev Named : ℕ → ℕ → List ℕ → List ℕ → Type 0
Named limit n o [] = Unit {0}
Named limit n o (t ∷ ts) = (New t o × (n < limit)) × Named limit (suc n) (t ∷ o) ts

named_iff : (limit : ℕ) (ts : List ℕ) (n : ℕ) (o : List ℕ) → n ≤ limit → Iff (Named limit n o ts) ((n + length ts ≤ limit) × Fresh o ts)
named_iff limit [] n o h = ((λ _. (omega arith, tt)), (λ _. tt))
named_iff limit (t ∷ ts) n o h = (
  (λ k.
      let l = k.0.1 in
      let r = (named_iff limit ts (suc n) (t ∷ o) (omega arith)).0 k.1 in
      let m = r.0 in
      (omega arith, (k.0.0, r.1))),
  (λ k.
      let m = k.0 in
      ((k.1.0, omega arith), (named_iff limit ts (suc n) (t ∷ o) (omega arith)).1 (omega arith, k.1.1))),
)

-- ---- lines

step_iff : {P R : Type 0} (a : Above) (p : ℕ) (l : Line) (ls : List (Option Line)) → in_order a.stage l ≡ true → Decides (well_named a l) P → Iff (lines_shape (past a p l) (p + line_size l) ls ≡ fine) R → Iff (lines_shape a p (Some l ∷ ls) ≡ fine) (P × R)
step_iff a p l ls e d i =
    rw e (then_iff (rule (well_named a l) reason.LineName p 0) (lines_shape (past a p l) (p + line_size l) ls) (rule_iff (well_named a l) (refusal reason.LineName p 0) d) i)

abbrev field_tags : List Field → List ℕ
field_tags fs = map (λ f. f.tag) fs

-- among such lines a field's tag has to be new in the list, and goes on top of it
abbrev Open : (List ℕ → Above) → Type 1
Open at = (R : Type 0) (f : Field) (i : List ℕ) (p : ℕ) (ls : List (Option Line)) → Iff (lines_shape (at (f.tag ∷ i)) (p + line_size (field f)) ls ≡ fine) R → Iff (lines_shape (at i) p (Some (field f) ∷ ls) ≡ fine) ((New f.tag i × (length i < 64)) × R)

open_root : Open (λ i. above root i i 0 0)
open_root R f i p ls j = step_iff (above root i i 0 0) p (field f) ls refl (decides_named f.tag i (length i) 64) j

open_group : (q : ℕ) (o : List ℕ) (g : ℕ) → Open (λ i. above (inside q) o i g 0)
open_group q o g R f i p ls j = step_iff (above (inside q) o i g 0) p (field f) ls refl (decides_named f.tag i (length i) 64) j

fields_shape : (at : List ℕ → Above) → Open at → (fs : List Field) (rest : List Line) (i : List ℕ) (Q : Type 0) → ((p : ℕ) → Iff (lines_shape (at (onto (field_tags fs) i)) p (map Some rest) ≡ fine) Q) → (p : ℕ) → Iff (lines_shape (at i) p (map Some (map field fs ++ rest)) ≡ fine) (Named 64 (length i) i (field_tags fs) × Q)
fields_shape at step [] rest i Q k p = iff_tt (k p)
fields_shape at step (f ∷ fs) rest i Q k p =
    iff_regroup (step (Named 64 (suc (length i)) (f.tag ∷ i) (field_tags fs) × Q) f i p (map Some (map field fs ++ rest)) (fields_shape at step fs rest (f.tag ∷ i) Q k (p + line_size (field f))))

-- where groups may begin, and where no group stands open
abbrev Before : Stage → Type 0
Before root = Unit {0}
Before (inside p) = ⊥
Before behind = Unit {0}
Before closing = ⊥

abbrev Outside : Stage → Type 0
Outside root = Unit {0}
Outside (inside p) = ⊥
Outside behind = Unit {0}
Outside closing = Unit {0}

before_outside : (s : Stage) → Before s → Outside s
before_outside root h = tt
before_outside (inside p) h = absurd h
before_outside behind h = tt
before_outside closing h = tt

group_in_order : (s : Stage) (tag size : ℕ) → Before s → in_order s (group tag size) ≡ true
group_in_order root tag size h = refl
group_in_order (inside p) tag size h = absurd h
group_in_order behind tag size h = refl
group_in_order closing tag size h = absurd h

part_in_order : (s : Stage) (d : Data) → Outside s → in_order s (part d) ≡ true
part_in_order root d h = refl
part_in_order (inside p) d h = absurd h
part_in_order behind d h = refl
part_in_order closing d h = refl

outside_ended : (s : Stage) → Outside s → ended s ≡ fine
outside_ended root h = refl
outside_ended (inside p) h = absurd h
outside_ended behind h = refl
outside_ended closing h = refl

abbrev group_tags : List Group → List ℕ
group_tags gs = map (λ g. g.tag) gs

abbrev NamedGroups : ℕ → List ℕ → List Group → Type 0
NamedGroups n o [] = Unit {0}
NamedGroups n o (g ∷ gs) = ((New g.tag o × (n < 8)) × Named 64 0 [] (field_tags g.block.fields)) × NamedGroups (suc n) (g.tag ∷ o) gs

groups_shape : (gs : List Group) (rest : List Line) (s : Stage) → Before s → (o i : List ℕ) (n : ℕ) (Q : Type 0) → ((s' : Stage) → Outside s' → (i' : List ℕ) (n' p : ℕ) → Iff (lines_shape (above s' (onto (group_tags gs) o) i' n' 0) p (map Some rest) ≡ fine) Q) → (p : ℕ) → Iff (lines_shape (above s o i n 0) p (map Some (flat_map group_lines gs ++ rest)) ≡ fine) (NamedGroups n o gs × Q)
groups_shape [] rest s h o i n Q k p = iff_tt (k s (before_outside s h) i n p)
groups_shape (g ∷ gs) rest s h o i n Q k p =
    let more : List Line = flat_map group_lines gs ++ rest in
    let fs = g.block.fields in
    let tag = g.tag in
    let size = g.block.size in
    let next = λ (p' : ℕ). groups_shape gs rest behind tt (tag ∷ o) [] (suc n) Q k (p' + 2) in
    let inner = fields_shape (λ i. above (inside p) (tag ∷ o) i (suc n) 0) (open_group p (tag ∷ o) (suc n)) fs (end ∷ more) [] (NamedGroups (suc n) (tag ∷ o) gs × Q) next (p + 8) in
    let body = step_iff (above s o i n 0) p (group tag size) (map Some (map field fs ++ (end ∷ more))) (group_in_order s tag size h) (decides_named tag o n 8) inner in
    subst (λ (ls : List Line). Iff (lines_shape (above s o i n 0) p (map Some ls) ≡ fine) (NamedGroups n o (g ∷ gs) × Q)) (sym (group_tail g gs rest))
    (iff_regroup (iff_regroup body))

abbrev part_tags : List Data → List ℕ
part_tags ds = map (λ d. d.tag) ds

parts_shape : (ds : List Data) (s : Stage) → Outside s → (o i : List ℕ) (g n p : ℕ) → Iff (lines_shape (above s o i g n) p (map Some (map part ds)) ≡ fine) (Named 8 n o (part_tags ds))
parts_shape [] s h o i g n p = ((λ _. tt), (λ _. outside_ended s h))
parts_shape (d ∷ ds) s h o i g n p =
    step_iff (above s o i g n) p (part d) (map Some (map part ds)) (part_in_order s d h) (decides_named d.tag o n 8) (parts_shape ds closing tt (d.tag ∷ o) [] g (suc n) (p + 9))

-- ---- templates

-- tags differ, in the root with groups and data and in each group, and none are too many
pub record GoodNames (t : Template) : Type 0 where
  pub few : length t.root.fields ≤ 64
  pub inner : AllByRecursion (λ g. (length g.block.fields ≤ 64) × Distinct (map (λ f. f.tag) g.block.fields)) t.groups
  pub few_groups : length t.groups ≤ 8
  pub few_parts : length t.parts ≤ 8
  pub tags : Distinct (outer_tags t)

-- a list of things with tags, as they come
counted : {X : Type 0} (limit : ℕ) (tag : X → ℕ) (xs : List X) (o : List ℕ) → Iff (Named limit 0 o (map tag xs)) ((length xs ≤ limit) × Fresh o (map tag xs))
counted limit tag xs o =
    let r = named_iff limit (map tag xs) 0 o (omega arith) in
    let l : length (map tag xs) ≡ length xs = length-map xs tag in
    ((λ h. let k = r.0 h in let m = k.0 in (omega arith, k.1)), (λ k. let m = k.0 in r.1 (omega arith, k.1)))

inner_iff : (fs : List Field) → Iff (Named 64 0 [] (field_tags fs)) ((length fs ≤ 64) × Distinct (field_tags fs))
inner_iff fs =
    let r = counted 64 (λ f. f.tag) fs [] in
    let d = distinct_iff (field_tags fs) in
    ((λ h. let k = r.0 h in (k.0, d.0 k.1)), (λ k. r.1 (k.0, d.1 k.1)))

groups_iff : (gs : List Group) (n : ℕ) (o : List ℕ) → Iff (NamedGroups n o gs) (Named 8 n o (group_tags gs) × AllByRecursion (λ g. (length g.block.fields ≤ 64) × Distinct (map (λ f. f.tag) g.block.fields)) gs)
groups_iff [] n o = ((λ _. (tt, tt)), (λ _. tt))
groups_iff (g ∷ gs) n o =
    let r = groups_iff gs (suc n) (g.tag ∷ o) in
    let x = inner_iff g.block.fields in (
      (λ h. let k = r.0 h.1 in ((h.0.0, k.0), (x.0 h.0.1, k.1))),
      (λ h. ((h.0.0, x.1 h.1.0), r.1 (h.0.1, h.1.1))),
    )

pub names_iff : (t : Template) (p : ℕ) → Iff (lines_shape nothing_above p (map Some (template_lines t)) ≡ fine) (GoodNames t)
names_iff t p =
    let fs = t.root.fields in
    let gs = t.groups in
    let ds = t.parts in
    let o1 = onto (field_tags fs) [] in
    let o2 = onto (group_tags gs) o1 in
    let all = fields_shape (λ i. above root i i 0 0) open_root fs (flat_map group_lines gs ++ map part ds) [] (NamedGroups 0 o1 gs × Named 8 0 o2 (part_tags ds))
    (groups_shape gs (map part ds) root tt o1 o1 0 (Named 8 0 o2 (part_tags ds)) (λ s h i n. parts_shape ds s h o2 i n 0)) p in
    let a = counted 64 (λ f. f.tag) fs [] in
    let g = groups_iff gs 0 o1 in
    let b = counted 8 (λ g. g.tag) gs o1 in
    let c = counted 8 (λ d. d.tag) ds o2 in
    let x = fresh_append (field_tags fs) (group_tags gs ++ part_tags ds) [] in
    let y = fresh_append (group_tags gs) (part_tags ds) o1 in
    let z = distinct_iff (outer_tags t) in (
      (λ e.
          let k = all.0 e in
          let ka = a.0 k.0 in
          let kg = g.0 k.1.0 in
          let kb = b.0 kg.0 in
          let kc = c.0 k.1.1 in
          record { few = ka.0; inner = kg.1; few_groups = kb.0; few_parts = kc.0; tags = z.0 (x.1 (ka.1, y.1 (kb.1, kc.1))) }),
      (λ k.
          let d = x.0 (z.1 k.tags) in
          let e = y.0 d.1 in
          all.1 (a.1 (k.few, d.0), (g.1 (b.1 (k.few_groups, e.0), k.inner), c.1 (k.few_parts, e.1)))),
    )
