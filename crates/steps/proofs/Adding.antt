-- Adding an entry to a group, and taking its last one away: what is done to the bytes is what the calls say.
use Rattle.std.proofs.Common.{◌≡◌, ℕ, suc, ◌+◌, ◌-◌, ◌*◌, ◌<◌, ◌≤◌, ltb, List, [], ◌∷◌, ◌++◌, length, take, drop, Some, Ok, Err, Result, refl, ap, ◌∙◌, ⊎_elim, suc-mul, arith, length-append}
use Rattle.std.proofs.lemmas.Bool.{cases_Bool, ltb-true}
use Rattle.wire.specs.declared.refusal.Reason.TheVariants as reason
use Rattle.wire.specs.declared.refusal.Refusal.{Refusal}
use Rattle.wire.specs.Bytes.{Bytes}
use Rattle.wire.specs.Numbers.{le_bytes}
use Rattle.wire.specs.Refusals.{bind}
use Rattle.types.specs.Kinds.{Known, AllLawful}
use Rattle.schema.specs.Verdicts.{rule}
use Rattle.schema.specs.Sections.{Section}
use Rattle.schema.specs.Reading.{template_of, dictionary_of}
use Rattle.schema.specs.Seen.{seen_template}
use Rattle.message.specs.Blocks.{block_bytes}
use Rattle.message.specs.Frames.{GroupView, entries_bytes}
use Rattle.message.specs.Messages.{Message, group_view}
use Rattle.calls.specs.Changes.{◌before◌, blank_entry, GroupSpot, group_spot, one_more, one_less, with_group, needed, with_room, has_room_for_entry}
use Rattle.calls.specs.Calls.{Numbers, append, remove, by_buffer, filled_by, filling}
use Rattle.calls.proofs.Splits.{AppendSplits, DropSplits, group_splits, append_splits, drop_splits, found_group_lawful}
use Rattle.places.specs.Places.{PlacedGroup, group_place}
use Rattle.places.specs.Spots.{Counted, counted_group, counted_entries}
use Rattle.steps.specs.Steps.{Left, patched_in, shifted_in, has_room, working, append_step, drop_step, after, left_of}
use Rattle.steps.proofs.Fronts.{form_view, with_contents, HeldFront, step_of_call}
use Rattle.steps.proofs.Leaving.{header_end, buffer_by, left_by, room_left}
use Rattle.steps.proofs.Moved.{regroup, regroup_more, regrouped_long, added_in, removed_in}

times_more : (k w : ℕ) → (k + 1) * w ≡ k * w + w
times_more k w =
    let e : k + 1 ≡ suc k = omega arith in
    ap (λ x. x * w) e ∙ suc-mul k w

times_less : (k w : ℕ) → 0 < k → (k - 1) * w + w ≡ k * w
times_less k w l =
    let e : suc (k - 1) ≡ k = omega arith in
    let times = suc-mul (k - 1) w in
    let same : suc (k - 1) * w ≡ k * w = ap (λ x. x * w) e in
    omega arith

module _ (known : Known) (s buffer : List ℕ) (n : Numbers) (t : Section) (m : Message) (h : HeldFront known s buffer n t m) (group : ℕ) where
  -- ---- one more

  -- what an entry more leaves, by the group's place, its lines and the number of its entries
  abbrev added : ℕ → GroupView → ℕ → Left
  added place g count = record {
    length = n.length + g.block.size;
    bytes =
        patched_in 0 (le_bytes 2 (n.length + g.block.size))
        (patched_in (place + 2) ((count + 1) ∷ [])
        (patched_in (place + 3 + count * g.block.size) (block_bytes g.block (blank_entry g.block))
        (shifted_in (place + 3 + count * g.block.size) n.length (place + 3 + (count + 1) * g.block.size) buffer)));
  }

  abbrev more_by_count : Counted GroupView → Result Left Refusal
  more_by_count g =
      rule (ltb g.count 254) reason.Full (g.place + 2) group
      before has_room (n.length + g.line.block.size) (length buffer)
      before Ok (added g.place g.line g.count)

  more_in_bytes : (g : Result PlacedGroup Refusal) → bind (counted_group known g) more_by_count ≡ bind g (λ g. more_by_count (record { place = g.place; line = group_view known g.group; count = g.count }))
  more_in_bytes (Ok g) = refl
  more_in_bytes (Err e) = refl

  module _ (g : GroupSpot) (x : AppendSplits (form_view known n t) m.contents group g) where
    more_needed : needed (form_view known n t) (with_group (form_view known n t) m.contents one_more group) ≡ n.length + g.group.block.size
    more_needed =
        let blank = block_bytes g.group.block (blank_entry g.group.block) in
        let es = entries_bytes g.group.block g.entries in
        let needs = h.needs in
        let w = x.blank_long in
        let both = length-append blank x.behind in
        let was = ap length x.was ∙ regrouped_long x.before (length g.entries) es x.behind in
        let is = ap length x.is ∙ regrouped_long x.before (suc (length g.entries)) es (blank ++ x.behind) in
        omega arith

    more_left : n.length + g.group.block.size ≤ length buffer → left_of known (dictionary_of s) buffer (with_contents m (with_group (form_view known n t) m.contents one_more group)) ≡ added g.place g.group (length g.entries)
    more_left room =
        let size = g.group.block.size in
        let head = header_end s n t in
        let blank = block_bytes g.group.block (blank_entry g.group.block) in
        let es = entries_bytes g.group.block g.entries in
        let k = length g.entries in
        let rest = drop n.length buffer in
        let new = drop (n.length + size) buffer in
        let needs = h.needs in
        let at = x.at in
        let w = x.blank_long in
        let es_long = x.entries_long in
        let ten : length head ≡ 10 = refl in
        let times = times_more k size in
        let one : suc k ≡ k + 1 = omega arith in
        let was = ap length x.was ∙ regrouped_long x.before k es x.behind in
        let split = buffer_by known s buffer n t m h _ (ap (λ y. y ++ rest) x.was ∙ regroup x.before k es x.behind rest) in
        left_by known s buffer n t m h (n.length + size) (with_group (form_view known n t) m.contents one_more group) (x.before ++ ((k + 1) ∷ (es ++ (blank ++ (x.behind ++ new))))) (added g.place g.group k).bytes more_needed
        (ap (λ y. y ++ new) x.is ∙ regroup_more x.before (suc k) es blank x.behind new ∙ ap (λ q. x.before ++ (q ∷ (es ++ (blank ++ (x.behind ++ new))))) one)
        (added_in head n.length (n.length + size) (g.place + 2) (g.place + 3 + k * size) (g.place + 3 + (k + 1) * size) k (k + 1) x.before es blank x.behind rest buffer split (omega arith) (omega arith) (omega arith) (omega arith) (omega arith) room)

  more_in_message : (r : Result GroupSpot Refusal) → group_spot (form_view known n t) m.contents group ≡ r →
      after known (dictionary_of s) buffer (bind (bind r (λ g. rule (has_room_for_entry g.entries) reason.Full (g.place + 2) group before with_room (length buffer) (form_view known n t) (with_group (form_view known n t) m.contents one_more group))) (λ c. Ok (with_contents m c)))
      ≡ bind (counted_entries r) more_by_count
  more_in_message (Err e) is = refl
  more_in_message (Ok g) is =
      let v = form_view known n t in
      let x = append_splits v m.contents group g (group_splits v m.contents h.sound h.right group g is) (found_group_lawful v m.contents h.slots group g is) in
      let all = room_left known s buffer n t m h (n.length + g.group.block.size) (with_group v m.contents one_more group) (added g.place g.group (length g.entries)).bytes (more_needed g x) (more_left g x) in
      ⊎_elim (λ a. rw a all) (λ a. rw a refl) (cases_Bool (ltb (length g.entries) 254))

  -- an entry is added to the message that the buffer begins with
  pub entry_more : after known (dictionary_of s) buffer (filled_by known (length buffer) (append group) m (Some (seen_template n.version (template_of t)))) ≡ append_step known (template_of t) n.version n.length buffer group
  entry_more =
      more_in_message (group_spot (form_view known n t) m.contents group) refl
      ∙ ap (λ g. bind g more_by_count) (h.places.groups group)
      ∙ more_in_bytes (group_place n.version (take n.length buffer) (template_of t) group)

  -- ---- one less

  -- what an entry less leaves
  abbrev taken_away : ℕ → GroupView → ℕ → Left
  taken_away place g count = record {
    length = n.length - g.block.size;
    bytes =
        patched_in 0 (le_bytes 2 (n.length - g.block.size))
        (patched_in (place + 2) ((count - 1) ∷ [])
        (shifted_in (place + 3 + count * g.block.size) n.length (place + 3 + (count - 1) * g.block.size) buffer));
  }

  abbrev less_by_count : Counted GroupView → Result Left Refusal
  less_by_count g =
      rule (ltb 0 g.count) reason.NotFound 0 group
      before Ok (taken_away g.place g.line g.count)

  less_in_bytes : (g : Result PlacedGroup Refusal) → bind (counted_group known g) less_by_count ≡ bind g (λ g. less_by_count (record { place = g.place; line = group_view known g.group; count = g.count }))
  less_in_bytes (Ok g) = refl
  less_in_bytes (Err e) = refl

  less_left : (g : GroupSpot) → 0 < length g.entries → DropSplits (form_view known n t) m.contents group g →
      left_of known (dictionary_of s) buffer (with_contents m (with_group (form_view known n t) m.contents one_less group)) ≡ taken_away g.place g.group (length g.entries)
  less_left g some x =
      let size = g.group.block.size in
      let head = header_end s n t in
      let k = length g.entries in
      let rest = drop n.length buffer in
      let new = drop (n.length - size) buffer in
      let c = with_group (form_view known n t) m.contents one_less group in
      let needs = h.needs in
      let at = x.at in
      let w = x.last_long in
      let kept_long = x.kept_long in
      let ten : length head ≡ 10 = refl in
      let times = times_less k size some in
      let both = length-append x.last x.behind in
      let was = ap length x.was ∙ regrouped_long x.before k x.kept (x.last ++ x.behind) in
      let is = ap length x.is ∙ regrouped_long x.before (k - 1) x.kept x.behind in
      let need : needed (form_view known n t) c ≡ n.length - size = omega arith in
      let split = buffer_by known s buffer n t m h _ (ap (λ y. y ++ rest) x.was ∙ regroup_more x.before k x.kept x.last x.behind rest) in
      left_by known s buffer n t m h (n.length - size) c (x.before ++ ((k - 1) ∷ (x.kept ++ (x.behind ++ new)))) (taken_away g.place g.group k).bytes need
      (ap (λ y. y ++ new) x.is ∙ regroup x.before (k - 1) x.kept x.behind new)
      (removed_in head n.length (n.length - size) (g.place + 2) (g.place + 3 + k * size) (g.place + 3 + (k - 1) * size) k (k - 1) x.before x.kept x.last x.behind rest buffer split (omega arith) (omega arith) (omega arith) (omega arith) (omega arith))

  less_in_message : (r : Result GroupSpot Refusal) → group_spot (form_view known n t) m.contents group ≡ r →
      after known (dictionary_of s) buffer (bind (bind r (λ g. rule (ltb 0 (length g.entries)) reason.NotFound 0 group before Ok (with_group (form_view known n t) m.contents one_less group))) (λ c. Ok (with_contents m c)))
      ≡ bind (counted_entries r) less_by_count
  less_in_message (Err e) is = refl
  less_in_message (Ok g) is =
      let v = form_view known n t in
      let x = group_splits v m.contents h.sound h.right group g is in
      ⊎_elim
      (λ a. let some = ltb-true 0 (length g.entries) a in let all = less_left g some (drop_splits v m.contents group g x some) in rw a (ap Ok all))
      (λ a. rw a refl)
      (cases_Bool (ltb 0 (length g.entries)))

  -- the last entry is taken from the message that the buffer begins with
  pub entry_less : after known (dictionary_of s) buffer (filled_by known (length buffer) (remove group) m (Some (seen_template n.version (template_of t)))) ≡ drop_step known (template_of t) n.version n.length buffer group
  entry_less =
      less_in_message (group_spot (form_view known n t) m.contents group) refl
      ∙ ap (λ g. bind g less_by_count) (h.places.groups group)
      ∙ less_in_bytes (group_place n.version (take n.length buffer) (template_of t) group)

-- ---- the calls

module _ (known : Known) (s buffer : List ℕ) (n : Numbers) (lawful : AllLawful known) (y : Bytes buffer) where
  -- appending moves what follows the entries, and puts a blank one there
  pub appends : (group : ℕ) →
      after known (dictionary_of s) buffer (filling known s (by_buffer known s buffer) (length buffer) n (append group))
      ≡ bind (working known s buffer n) (λ t. append_step known (template_of t) n.version n.length buffer group)
  appends group =
      step_of_call known s buffer n lawful y (append group) (λ t. append_step known (template_of t) n.version n.length buffer group)
      (λ t m h. entry_more known s buffer n t m h group)

  -- dropping moves what follows the entries over the last one
  pub drops : (group : ℕ) →
      after known (dictionary_of s) buffer (filling known s (by_buffer known s buffer) (length buffer) n (remove group))
      ≡ bind (working known s buffer n) (λ t. drop_step known (template_of t) n.version n.length buffer group)
  drops group =
      step_of_call known s buffer n lawful y (remove group) (λ t. drop_step known (template_of t) n.version n.length buffer group)
      (λ t m h. entry_less known s buffer n t m h group)
