-- From groups without entries to entries whose meanings have patterns, by appending one entry after the other and setting its fields.
use Rattle.std.proofs.Common.{◌≡◌, ℕ, ◌+◌, ◌^◌, ◌<◌, ◌≤◌, true, false, eqb, List, [], ◌∷◌, ◌++◌, map, length, Ok, sym, refl, ap, subst, append_assoc, append-nil, arith, length-append}
use Rattle.std.specs.List.{AllByRecursion}
use Rattle.std.proofs.lemmas.Bool.{eq-eqb, ne_eqb}
use Rattle.types.specs.Meanings.{Meaning}
use Rattle.schema.specs.WellFormed.{Distinct}
use Rattle.message.specs.Blocks.{BlockView, block_bytes}
use Rattle.message.specs.Frames.{GroupView, entries_bytes, group_bytes, groups_bytes, Entries, Groups}
use Rattle.calls.specs.Changes.{blank_entry, group_in, with_entries}
use Rattle.calls.proofs.Steps.{Steps, over, more, steps_on, steps_within}
use Rattle.calls.proofs.ReachedFields.{GoodSlot, OneSet, fields_reached}

-- ---- the entries of one group

-- one more entry, blank, or a value set in the last one
pub data EntryStep (b : BlockView) : List (List Meaning) → List (List Meaning) → Type 0 where
  appends : (es : List (List Meaning)) → length es < 254 → EntryStep b es (es ++ (blank_entry b ∷ []))
  sets : (es : List (List Meaning)) (ms after : List Meaning) → length es < 254 → OneSet b.slots ms after → EntryStep b (es ++ (ms ∷ [])) (es ++ (after ∷ []))

module _ (b : BlockView) where
  entries_with_last : (es : List (List Meaning)) (ms : List Meaning) → length (entries_bytes b (es ++ (ms ∷ []))) ≡ length (entries_bytes b es) + length (block_bytes b ms)
  entries_with_last [] ms = simp length-append (omega arith)
  entries_with_last (x ∷ es) ms = let r = entries_with_last es ms in simp length-append (omega arith)

  pub entries_grow : (es after : List (List Meaning)) → EntryStep b es after → length (entries_bytes b es) ≤ length (entries_bytes b after)
  entries_grow _ _ (appends es l) = let r = entries_with_last es (blank_entry b) in omega arith
  entries_grow _ _ (sets es ms after l s) =
      let r = entries_with_last es ms in
      let q = entries_with_last es after in
      let g = s.grows 0 b.size in
      omega arith

  module _ (good : AllByRecursion GoodSlot b.slots) (d : Distinct (map (λ f. f.tag) b.slots)) where
    entry_reached : (es : List (List Meaning)) (ms : List Meaning) → length es < 254 → Entries true b (ms ∷ []) → Steps (EntryStep b) es (es ++ (ms ∷ []))
    entry_reached es ms l e =
        more (appends es l) (steps_within (λ xs. es ++ (xs ∷ [])) (λ x y s. sets es x y l s) (fields_reached b.slots ms good d e.0.0))

    pub entries_reached : (done rest : List (List Meaning)) → length done + length rest ≤ 254 → Entries true b rest → Steps (EntryStep b) done (done ++ rest)
    entries_reached done [] l e = subst (λ x. Steps (EntryStep b) done x) (sym (append-nil done)) over
    entries_reached done (ms ∷ rest) l e =
        let long : length (done ++ (ms ∷ [])) ≡ length done + 1 = length-append done (ms ∷ []) in
        steps_on
        (entry_reached done ms (omega arith) (e.0, tt))
        (subst (λ x. Steps (EntryStep b) (done ++ (ms ∷ [])) x) (append_assoc done (ms ∷ []) rest) (entries_reached (done ++ (ms ∷ [])) rest (omega arith) e.1))

-- ---- a group among groups

-- a group with the tag of g is g, and `put` are the entries of all groups by those of g
pub record GroupStands (gs : List GroupView) (g : GroupView) (put : List (List Meaning) → List (List (List Meaning))) : Type 0 where
  pub place : ℕ → ℕ
  pub found : (p : ℕ) (es : List (List Meaning)) → group_in p gs (put es) g.tag ≡ Ok (record { place = place p; group = g; entries = es })
  pub changed : (h : GroupView → List (List Meaning) → List (List Meaning)) (es : List (List Meaning)) → with_entries h g.tag gs (put es) ≡ put (h g es)
  pub grows : (es after : List (List Meaning)) → length (group_bytes g es) ≤ length (group_bytes g after) → length (groups_bytes gs (put es)) ≤ length (groups_bytes gs (put after))
  -- its tag is one of the groups'
  pub among : (t : ℕ) → AllByRecursion (λ u. u ≡ t → ⊥) (map (λ h. h.tag) gs) → g.tag ≡ t → ⊥

stands_first : (g : GroupView) (gs : List GroupView) (ess : List (List (List Meaning))) → GroupStands (g ∷ gs) g (λ es. es ∷ ess)
stands_first g gs ess =
    let same : eqb g.tag g.tag ≡ true = eq-eqb g.tag g.tag refl in
    record {
      place = λ p. p;
      found = λ p es. rw same;
      changed = λ h es. rw same;
      grows = λ es after l. rw (length-append (group_bytes g es) (groups_bytes gs ess), length-append (group_bytes g after) (groups_bytes gs ess)) (omega arith);
      among = λ t all e. all.0 e;
    }

stands_behind : (f : GroupView) (fs : List (List Meaning)) (gs : List GroupView) (g : GroupView) (put : List (List Meaning) → List (List (List Meaning))) → AllByRecursion (λ u. u ≡ f.tag → ⊥) (map (λ h. h.tag) gs) → GroupStands gs g put → GroupStands (f ∷ gs) g (λ es. fs ∷ put es)
stands_behind f fs gs g put differs s =
    let other : eqb f.tag g.tag ≡ false = ne_eqb f.tag g.tag (λ e. s.among f.tag differs (sym e)) in
    record {
      place = λ p. s.place (p + length (group_bytes f fs));
      found = λ p es. rw other (s.found (p + length (group_bytes f fs)) es);
      changed = λ h es. rw other (ap (λ x. fs ∷ x) (s.changed h es));
      grows = λ es after l. let r = s.grows es after l in rw (length-append (group_bytes f fs) (groups_bytes gs (put es)), length-append (group_bytes f fs) (groups_bytes gs (put after))) (omega arith);
      among = λ t all e. s.among t all.1 e;
    }

-- ---- group after group

-- a change of the entries of one of the groups
pub data GroupStep (gs : List GroupView) : List (List (List Meaning)) → List (List (List Meaning)) → Type 0 where
  in_group : (g : GroupView) (put : List (List Meaning) → List (List (List Meaning))) (es after : List (List Meaning)) → g.tag < 2 ^ 32 → (g.tag ≡ 0 → ⊥) → GroupStands gs g put → EntryStep g.block es after → GroupStep gs (put es) (put after)

-- a group whose tag can be said, and whose fields are good and differ in their tags
abbrev pub GoodGroupView : GroupView → Type 0
GoodGroupView g = (g.tag < 2 ^ 32) × AllByRecursion GoodSlot g.block.slots × Distinct (map (λ f. f.tag) g.block.slots)

group_behind : (f : GroupView) (fs : List (List Meaning)) (gs : List GroupView) → AllByRecursion (λ u. u ≡ f.tag → ⊥) (map (λ h. h.tag) gs) → (ess after : List (List (List Meaning))) → GroupStep gs ess after → GroupStep (f ∷ gs) (fs ∷ ess) (fs ∷ after)
group_behind f fs gs differs _ _ (in_group g put es after fits inner stands s) = in_group g (λ x. fs ∷ put x) es after fits inner (stands_behind f fs gs g put differs stands) s

pub groups_reached : (gs : List GroupView) (ess : List (List (List Meaning))) → AllByRecursion GoodGroupView gs → Distinct (map (λ g. g.tag) gs) → Groups true gs ess → Steps (GroupStep gs) (map (λ _. []) gs) ess
groups_reached [] [] good d k = over
groups_reached [] (es ∷ ess) good d k = absurd k
groups_reached (g ∷ gs) [] good d k = absurd k
groups_reached (g ∷ gs) (es ∷ ess) good d k =
    let few = k.0 in
    steps_on
    (steps_within (λ x. x ∷ map (λ _. []) gs) (λ a b s. in_group g (λ x. x ∷ map (λ _. []) gs) a b good.0.0 d.0.0 (stands_first g gs (map (λ _. []) gs)) s) (entries_reached g.block good.0.1 good.0.2 [] es (omega arith) k.1))
    (steps_within (λ x. es ∷ x) (λ a b s. group_behind g es gs d.0.1 a b s) (groups_reached gs ess good.1 d.1 k.2))
