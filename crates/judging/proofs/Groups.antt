-- The groups of a frame, one by one.
use Rattle.std.proofs.Common.{◌≡◌, ℕ, ◌+◌, ◌≤◌, Bool, true, false, cond, leb, List, [], ◌∷◌, map, length, drop, Ok, Err, Result, sym, refl, ap, ◌∙◌, subst, ap₂, arith, length-drop}
use Rattle.std.proofs.lemmas.Bool.{leb-true}
use Rattle.wire.specs.declared.refusal.Reason.TheVariants as reason
use Rattle.wire.specs.declared.refusal.Refusal.{Refusal}
use Rattle.wire.specs.Refusals.{refusal, bind}
use Rattle.types.specs.Kinds.{Known}
use Rattle.schema.specs.Verdicts.{Verdict, fine, rule, ◌then◌}
use Rattle.schema.specs.Lines.{lines, there}
use Rattle.schema.specs.Structure.{Group}
use Rattle.schema.specs.Reading.{fields_of}
use Rattle.schema.specs.Seen.{seen_group, length_at}
use Rattle.message.specs.Frames.{GroupView, entries_verdict, group_verdict, groups_verdict, group_length, groups_length, entry_length, entry_count, length_fits, count_fits}
use Rattle.message.specs.Messages.{group_view}
use Rattle.judging.specs.Steps.{block_at, head_verdict, group_step, groups_step}
use Rattle.judging.proofs.Entries.{entries_there}

-- what is left, with what was passed before it, is the whole
abbrev pub Left : ℕ → Result ℕ Refusal → Result ℕ Refusal → Type 0
Left passed (Ok n) all = all ≡ Ok (passed + n)
Left passed (Err e) all = all ≡ Err e

-- a verdict in four rules is one in three and the fourth
four : (a b c d : Verdict) → (a then (b then (c then d))) ≡ ((a then (b then c)) then d)
four (Ok x) (Ok y) c d = refl
four (Ok x) (Err e) c d = refl
four (Err e) b c d = refl

told : (v w : Verdict) (n m : ℕ) → bind v (λ _. bind w (λ _. Ok n)) ≡ Ok m → ((v then w) ≡ fine) × (n ≡ m) × (v ≡ fine) × (w ≡ fine)
told (Ok x) (Ok y) n m e = (refl, cc, refl, refl)
told (Ok x) (Err g) n m e = let z : ◌≡◌ {A = ℕ} 0 1 = cc in absurd (omega arith)
told (Err g) w n m e = let z : ◌≡◌ {A = ℕ} 0 1 = cc in absurd (omega arith)

told_refused : (v w : Verdict) (n : ℕ) (g : Refusal) → bind v (λ _. bind w (λ _. Ok n)) ≡ Err g → (v then w) ≡ Err g
told_refused (Ok x) (Ok y) n g e = let z : ◌≡◌ {A = ℕ} 0 1 = cc in absurd (omega arith)
told_refused (Ok x) (Err h) n g e = let same : h ≡ g = cc in ap (λ r. Err r) same
told_refused (Err h) w n g e = let same : h ≡ g = cc in ap (λ r. Err r) same

first_told : (a : Bool) (e : Refusal) (v : Verdict) → (cond a fine (Err e) then v) ≡ fine → a ≡ true
first_told true e v h = refl
first_told false e v h = let z : ◌≡◌ {A = ℕ} 0 1 = cc in absurd (omega arith)

summed : (v : Verdict) (k n passed : ℕ) (all : Result ℕ Refusal) → Left passed (bind v (λ _. Ok (k + n))) all → Left (passed + k) (bind v (λ _. Ok n)) all
summed (Ok x) k n passed all h = h ∙ ap (λ m. Ok m) (omega arith)
summed (Err e) k n passed all h = h

left_same : (passed passed' : ℕ) (r r' all : Result ℕ Refusal) → passed ≡ passed' → r ≡ r' → Left passed r all → Left passed' r' all
left_same passed passed' r r' all e f h = subst (λ x. Left passed' x all) f (subst (λ k. Left k r all) e h)

module _ (known : Known) (version : ℕ) (closed newer : Bool) where
  -- groups as they are seen at the version
  abbrev pub views : List Group → List GroupView
  views gs = map (group_view known) (map (seen_group version) gs)

  -- a group's verdict is that of its head and that of its entries
  apart : (tag size : ℕ) (s : List ℕ) (p : ℕ) (bs : List ℕ) → group_verdict closed newer (record { tag = tag; block = block_at known version size s }) p bs ≡ (head_verdict newer tag (length_at version size (fields_of (there (lines s)))) p bs then entries_verdict closed (block_at known version size s) (entry_length bs) tag (entry_count bs) (p + 3) (drop 3 bs))
  apart tag size s p bs =
      four (rule (leb 3 (length bs)) reason.PastEnd p tag) (rule (length_fits newer (entry_length bs) (length_at version size (fields_of (there (lines s))))) reason.BlockLength p tag) (rule (count_fits (entry_count bs)) reason.TooMany (p + 2) tag)
      (entries_verdict closed (block_at known version size s) (entry_length bs) tag (entry_count bs) (p + 3) (drop 3 bs))

  -- groups of which one is the first, by the lines of its fields
  one_first : (gs gs' : List Group) (s : List ℕ) (tag size : ℕ) (p : ℕ) (bs : List ℕ) → gs ≡ record { tag = tag; block = record { size = size; fields = fields_of (there (lines s)) } } ∷ gs' → groups_step closed newer (views gs) p bs ≡ bind (group_verdict closed newer (record { tag = tag; block = block_at known version size s }) p bs then groups_verdict closed newer (views gs') (p + group_length bs) (drop (group_length bs) bs)) (λ _. Ok (group_length bs + groups_length (views gs') (drop (group_length bs) bs)))
  one_first gs gs' s tag size p bs e = ap (λ hs. groups_step closed newer (views hs) p bs) e

  -- a group that passes is there
  pub group_there : (tag size : ℕ) (s : List ℕ) (p n : ℕ) (bs : List ℕ) → group_step known version closed newer tag size s p bs ≡ Ok n → (n ≡ group_length bs) × (n ≤ length bs)
  group_there tag size s p n bs ok =
      let t = told (head_verdict newer tag (length_at version size (fields_of (there (lines s)))) p bs) (entries_verdict closed (block_at known version size s) (entry_length bs) tag (entry_count bs) (p + 3) (drop 3 bs)) (group_length bs) n ok in
      let three : 3 ≤ length bs = leb-true 3 (length bs) (first_told (leb 3 (length bs)) (refusal reason.PastEnd p tag) _ t.2) in
      let rest = entries_there closed (block_at known version size s) (entry_length bs) tag (entry_count bs) (p + 3) (drop 3 bs) t.3 in
      let long = length-drop 3 bs in
      let same = t.1 in
      (sym same, omega arith)

  pub groups_more : (gs gs' : List Group) (s : List ℕ) (tag size n place passed : ℕ) (bs bs' : List ℕ) (r all : Result ℕ Refusal) → gs ≡ record { tag = tag; block = record { size = size; fields = fields_of (there (lines s)) } } ∷ gs' → r ≡ group_step known version closed newer tag size s (place + passed) bs → r ≡ Ok n → bs' ≡ drop n bs → Left passed (groups_step closed newer (views gs) (place + passed) bs) all → Left (passed + n) (groups_step closed newer (views gs') (place + (passed + n)) bs') all
  groups_more gs gs' s tag size n place passed bs bs' r all e is ok ebs whole =
      let p = place + passed in
      let vs = views gs' in
      let head = head_verdict newer tag (length_at version size (fields_of (there (lines s)))) p bs in
      let entries = entries_verdict closed (block_at known version size s) (entry_length bs) tag (entry_count bs) (p + 3) (drop 3 bs) in
      let t = told head entries (group_length bs) n (sym is ∙ ok) in
      let same : group_length bs ≡ n = t.1 in
      let q : p + group_length bs ≡ place + (passed + n) = omega arith in
      let rest : drop (group_length bs) bs ≡ bs' = ap (λ k. drop k bs) same ∙ sym ebs in
      let first : groups_step closed newer (views gs) p bs ≡ bind (groups_verdict closed newer vs (p + group_length bs) (drop (group_length bs) bs)) (λ _. Ok (group_length bs + groups_length vs (drop (group_length bs) bs))) =
      one_first gs gs' s tag size p bs e
      ∙ ap (λ v. bind (v then groups_verdict closed newer vs (p + group_length bs) (drop (group_length bs) bs)) (λ _. Ok (group_length bs + groups_length vs (drop (group_length bs) bs)))) (apart tag size s p bs ∙ t.0) in
      let stepped = summed (groups_verdict closed newer vs (p + group_length bs) (drop (group_length bs) bs)) (group_length bs) (groups_length vs (drop (group_length bs) bs)) passed all (subst (λ x. Left passed x all) first whole) in
      left_same (passed + group_length bs) (passed + n) _ _ all (ap (λ k. passed + k) same)
      (ap₂ (λ x y. groups_step closed newer vs x y) q rest) stepped

  pub groups_refused : (gs gs' : List Group) (s : List ℕ) (tag size place passed : ℕ) (bs : List ℕ) (r all : Result ℕ Refusal) (g : Refusal) → gs ≡ record { tag = tag; block = record { size = size; fields = fields_of (there (lines s)) } } ∷ gs' → r ≡ group_step known version closed newer tag size s (place + passed) bs → r ≡ Err g → Left passed (groups_step closed newer (views gs) (place + passed) bs) all → Err g ≡ all
  groups_refused gs gs' s tag size place passed bs r all g e is bad whole =
      let p = place + passed in
      let vs = views gs' in
      let head = head_verdict newer tag (length_at version size (fields_of (there (lines s)))) p bs in
      let entries = entries_verdict closed (block_at known version size s) (entry_length bs) tag (entry_count bs) (p + 3) (drop 3 bs) in
      let no' = told_refused head entries (group_length bs) g (sym is ∙ bad) in
      let first : groups_step closed newer (views gs) p bs ≡ Err g =
      one_first gs gs' s tag size p bs e
      ∙ ap (λ v. bind (v then groups_verdict closed newer vs (p + group_length bs) (drop (group_length bs) bs)) (λ _. Ok (group_length bs + groups_length vs (drop (group_length bs) bs)))) (apart tag size s p bs ∙ no') in
      sym (subst (λ x. Left passed x all) first whole)

  pub groups_end : (gs : List Group) (place passed : ℕ) (bs : List ℕ) (all : Result ℕ Refusal) → gs ≡ [] → Left passed (groups_step closed newer (views gs) (place + passed) bs) all → Ok passed ≡ all
  groups_end gs place passed bs all e whole =
      let none : groups_step closed newer (views gs) (place + passed) bs ≡ Ok 0 = ap (λ hs. groups_step closed newer (views hs) (place + passed) bs) e in
      sym (subst (λ x. Left passed x all) none whole ∙ ap (λ m. Ok m) (omega arith))

-- before anything is passed
pub left_start : (r r' : Result ℕ Refusal) → r ≡ r' → Left 0 r r'
left_start (Ok n) r' e = sym e ∙ ap (λ m. Ok m) (omega arith)
left_start (Err x) r' e = sym e
