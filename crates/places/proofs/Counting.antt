-- How many groups and data bytes hold: no more than there are bytes, and as many as a walk over them gives.
use Rattle.std.proofs.Common.{◌≡◌, ℕ, zero, suc, ◌+◌, ◌*◌, ◌≤◌, leb, List, [], ◌∷◌, map, length, drop, Some, None, Option, sym, ap, ◌∙◌, ⊎_elim, subst, arith}
use Rattle.std.proofs.lemmas.Bool.{cases_Bool}
use Rattle.std.proofs.lemmas.List.{length-map}
use Rattle.std.specs.Iterator.{Yields, Drains}
use Rattle.schema.specs.Structure.{Data}
use Rattle.schema.specs.Lines.{Line, field, group, end, part, line_size, first_line, onward, lines_from, lines, there}
use Rattle.schema.specs.Reading.{groups_of, parts_of}
use Rattle.schema.specs.Seen.{seen_parts}
use Rattle.lines.specs.Held.{lines_in, groups_in, parts_in}
use Rattle.dictionary.specs.Walks.{Gives}
use Rattle.lines.specs.Walks.{GivesSeenPart, data_at, seen_parts_left}
use Rattle.lines.specs.declared.parts.PartLine.{PartLine}
use Rattle.lines.specs.declared.parts.SeenParts.{SeenParts}
use Rattle.places.specs.Places.{prefixes}

-- ---- no more than there are bytes

onward_few : {X : Type 0} (n : ℕ) (o : Option X) (go : X → List (Option X)) → ((x : X) → length (go x) ≤ n) → length (onward o go) ≤ suc n
onward_few n None go h = omega arith
onward_few n (Some x) go h = let k = h x in omega arith

lines_from_few : (n : ℕ) (s : List ℕ) → length (lines_from n s) ≤ n
lines_from_few zero s = omega arith
lines_from_few (suc n) [] = omega arith
lines_from_few (suc n) (b ∷ s) = onward_few n (first_line (b ∷ s)) (λ l. lines_from n (drop (line_size l) (b ∷ s))) (λ l. lines_from_few n (drop (line_size l) (b ∷ s)))

there_few : {X : Type 0} (os : List (Option X)) → length (there os) ≤ length os
there_few [] = omega arith
there_few (None ∷ os) = omega arith
there_few (Some x ∷ os) = let k = there_few os in omega arith

lines_few : (s : List ℕ) → length (lines_in s) ≤ length s
unfolding lines
lines_few s = let a = there_few (lines_from (length s) s) in let b = lines_from_few (length s) s in omega arith

groups_of_few : (ls : List Line) → length (groups_of ls) ≤ length ls
groups_of_few [] = omega arith
groups_of_few (field f ∷ ls) = let k = groups_of_few ls in omega arith
groups_of_few (group tag size ∷ ls) = let k = groups_of_few ls in omega arith
groups_of_few (end ∷ ls) = let k = groups_of_few ls in omega arith
groups_of_few (part d ∷ ls) = let k = groups_of_few ls in omega arith

parts_of_few : (ls : List Line) → length (parts_of ls) ≤ length ls
parts_of_few [] = omega arith
parts_of_few (field f ∷ ls) = let k = parts_of_few ls in omega arith
parts_of_few (group tag size ∷ ls) = let k = parts_of_few ls in omega arith
parts_of_few (end ∷ ls) = let k = parts_of_few ls in omega arith
parts_of_few (part d ∷ ls) = let k = parts_of_few ls in omega arith

seen_few : (v : ℕ) (ds : List Data) → length (seen_parts v ds) ≤ length ds
seen_few v [] = omega arith
seen_few v (d ∷ ds) = let k = seen_few v ds in ⊎_elim (λ a. rw a (omega arith)) (λ a. rw a (omega arith)) (cases_Bool (leb d.since v))

pub groups_few : (s : List ℕ) → length (groups_in s) ≤ length s
groups_few s = let a = groups_of_few (lines_in s) in let b = lines_few s in omega arith

pub parts_few : (v : ℕ) (s : List ℕ) → length (seen_parts v (parts_in s)) ≤ length s
parts_few v s = let a = seen_few v (parts_in s) in let b = parts_of_few (lines_in s) in let c = lines_few s in omega arith

-- ---- as many as a walk gives

module _ {W A X : Type 0} (gives : W → Option A → W → Type 0) (n : ℕ) (shown : A → X) (bytes : W → List ℕ) (left : W → List X) (into : (w : W) (o : Option A) (w' : W) → gives w o w' → Gives (λ _. n) shown bytes left w o w') where
  taken : (xs : List A) (w w' : W) → Yields gives w xs w' → length (bytes w') + n * length xs ≤ length (bytes w)
  taken [] w w' e = let same = ap (λ v. length (bytes v)) e in omega arith
  taken (x ∷ xs) w w' (v, a, y) = let step = (into w (Some x) v a).1 in let more = taken xs v w' y in omega arith

  -- all of them are what is left
  pub drained : (xs : List A) (w : W) → Drains gives w xs → left w ≡ map shown xs
  drained [] w (u, (t, e, k)) = ap left e ∙ (into t None u k).0
  drained (x ∷ xs) w (u, (t, (v, a, y), k)) = (into w (Some x) v a).0 ∙ ap (λ l. shown x ∷ l) (drained xs v (u, (t, y, k)))

  -- so they are as many, and each takes n bytes
  pub counted : (count : ℕ) (w : W) → ((xs : List A) × Drains gives w xs × (count ≡ length xs)) → (count ≡ length (left w)) × (n * count ≤ length (bytes w))
  counted count w (xs, (u, (t, y, k)), e) =
      let more = taken xs w t y in
      let long : length (left w) ≡ length xs = ap length (drained xs w (u, (t, y, k))) ∙ length-map xs shown in
      (omega arith, subst (λ m. n * m ≤ length (bytes w)) (sym e) (omega arith))

-- the length of a data takes a byte
prefixes_are : (xs : List PartLine) → prefixes (map data_at xs) ≡ length xs
prefixes_are [] = omega arith
prefixes_are (x ∷ xs) = let k = prefixes_are xs in omega arith

pub prefixes_counted : (count : ℕ) (w : SeenParts) → ((xs : List PartLine) × Drains GivesSeenPart w xs × (count ≡ length xs)) → count ≡ prefixes (seen_parts_left w)
prefixes_counted count w (xs, d, e) = e ∙ sym (prefixes_are xs) ∙ ap prefixes (sym (drained GivesSeenPart 9 data_at (λ v. v.parts.lines.rest.now) seen_parts_left (λ v o v' k. k.0) xs w d))
