-- What an edition reads in the closed frames of another: what the message has there by the lines of the edition that it was written under.
use Rattle.std.proofs.Common.{◌≡◌, ℕ, ◌<◌, ◌≤◌, min, cond, eqb, ◌⊎◌, List, [], ◌∷◌, ◌++◌, map, length, get_or, Some, None, Ok, Result, sym, refl, ap, ◌∙◌, subst, ap₂, inl, ⊎_elim, arith}
use Rattle.std.specs.List.{AllByRecursion}
use Rattle.std.proofs.ByRecursion.{All-weaker}
use Rattle.std.proofs.lemmas.Bool.{eq-eqb, ne_eqb, cases_lt}
use Rattle.wire.specs.declared.refusal.Refusal.{Refusal}
use Rattle.types.specs.Meanings.{Meaning, absent}
use Rattle.types.specs.Kinds.{Known, AllLawful}
use Rattle.schema.specs.Structure.{Field, Group, Data, Template}
use Rattle.schema.specs.Reading.{dictionary_of}
use Rattle.schema.specs.Seen.{seen_group, seen_template, seen, find, template_at}
use Rattle.schema.specs.WellFormed.{Distinct, outer_tags, GoodTemplate}
use Rattle.schema.specs.Editions.{EarlierEdition}
use Rattle.schema.specs.Laws.{Checked}
use Rattle.schema.proofs.Exact.{passes_exactly}
use Rattle.schema.proofs.EditionLaws.{shows_at, found_at, find_seen, find_holds, template_at_earlier}
use Rattle.schema.proofs.EditionsAgree.{checked_is_well_formed}
use Rattle.message.specs.Messages.{Message, frame, Closes}
use Rattle.message.specs.Lookup.{Reading, means, holds, not_found, of_field, of_root, lookup, answered, data_at, in_entries, in_groups, in_contents, in_template, message_reading, frame_reading}
use Rattle.message.specs.Laws.{NothingIn}
use Rattle.message.proofs.Says.{no_field, later_has}
use Rattle.message.proofs.Entries.{ReadAt, each_reads, entry_there, entry_not_there}
use Rattle.message.proofs.FrameLaws.{editions_share_frames}
use Rattle.calls.specs.Calls.{Call}
use Rattle.calls.specs.Laws.{had_or, count_of, entries_had, IsWhatItsMessagesSay, ReadsWhatTheMessageHas, ReadBy, FrameIsReadBy}

-- ---- tags that differ

distinct_right : (xs ys : List ℕ) → Distinct (xs ++ ys) → Distinct ys
distinct_right [] ys h = h
distinct_right (x ∷ xs) ys h = distinct_right xs ys h.1

all_left : {X : Type 0} (P : X → Type 0) (xs ys : List X) → AllByRecursion P (xs ++ ys) → AllByRecursion P xs
all_left P [] ys h = tt
all_left P (x ∷ xs) ys h = (h.0, all_left P xs ys h.1)

distinct_left : (xs ys : List ℕ) → Distinct (xs ++ ys) → Distinct xs
distinct_left [] ys h = tt
distinct_left (x ∷ xs) ys h = ((h.0.0, all_left (λ u. u ≡ x → ⊥) xs ys h.0.1), distinct_left xs ys h.1)

-- the groups of a template have tags that differ from one another and from 0
group_tags_differ : (t : Template) → Distinct (outer_tags t) → Distinct (map (λ g. g.tag) t.groups)
group_tags_differ t h =
    let fields = map (λ f. f.tag) t.root.fields in
    let groups = map (λ g. g.tag) t.groups in
    let parts = map (λ d. d.tag) t.parts in
    distinct_left groups parts (distinct_right fields (groups ++ parts) h)

-- ---- the entries of each group

-- a group by its tag, which is not 0: its entries, and that they are what is read in it
record GroupRead (gs : List Group) (ess : List (List (List Meaning))) (g : Group) : Type 0 where
  pub entries : List (List Meaning)
  pub had : lookup (λ g. g.tag) [] gs ess g.tag ≡ Some entries
  pub not_root : g.tag ≡ 0 → ⊥
  pub reads : (entry tag : ℕ) → in_groups gs ess g.tag entry tag ≡ in_entries g.block.fields entries g.tag entry tag

without_entries : (gs : List Group) (group entry tag : ℕ) → in_groups gs [] group entry tag ≡ not_found group
without_entries [] group entry tag = refl
without_entries (g ∷ gs) group entry tag = refl

-- groups with other tags behind one more group: without entries, and with them
behind_none : (g : Group) (gs ks : List Group) → AllByRecursion (λ u. u ≡ g.tag → ⊥) (map (λ g. g.tag) ks) → AllByRecursion (GroupRead gs []) ks → AllByRecursion (GroupRead (g ∷ gs) []) ks
behind_none g gs [] d h = tt
behind_none g gs (k ∷ ks) d h = (
  record {
    entries = h.0.entries;
    had = rw (ne_eqb g.tag k.tag (λ e. d.0 (sym e))) h.0.had;
    not_root = h.0.not_root;
    reads = λ entry tag. sym (without_entries gs k.tag entry tag) ∙ h.0.reads entry tag;
  },
  behind_none g gs ks d.1 h.1,
)

behind_some : (g : Group) (es : List (List Meaning)) (gs : List Group) (ess : List (List (List Meaning))) (ks : List Group) → AllByRecursion (λ u. u ≡ g.tag → ⊥) (map (λ g. g.tag) ks) → AllByRecursion (GroupRead gs ess) ks → AllByRecursion (GroupRead (g ∷ gs) (es ∷ ess)) ks
behind_some g es gs ess [] d h = tt
behind_some g es gs ess (k ∷ ks) d h =
    let other = ne_eqb g.tag k.tag (λ e. d.0 (sym e)) in (
      record {
        entries = h.0.entries;
        had = rw other h.0.had;
        not_root = h.0.not_root;
        reads = λ entry tag. rw other (h.0.reads entry tag);
      },
      behind_some g es gs ess ks d.1 h.1,
    )

each_group_reads : (gs : List Group) (ess : List (List (List Meaning))) → Distinct (map (λ g. g.tag) gs) → AllByRecursion (GroupRead gs ess) gs
each_group_reads [] ess d = tt
each_group_reads (g ∷ gs) [] d = (
  record { entries = []; had = rw (eq-eqb g.tag g.tag refl); not_root = d.0.0; reads = λ entry tag. refl },
  behind_none g gs gs d.0.1 (each_group_reads gs [] d.1),
)
each_group_reads (g ∷ gs) (es ∷ ess) d =
    let same = eq-eqb g.tag g.tag refl in (
      record { entries = es; had = rw same; not_root = d.0.0; reads = λ entry tag. rw same },
      behind_some g es gs ess gs d.0.1 (each_group_reads gs ess d.1),
    )

-- a group has its tag at each version, and so a message the same entries in it
groups_at : (v : ℕ) (gs : List Group) (ess : List (List (List Meaning))) (tag : ℕ) → lookup (λ g. g.tag) [] (map (seen_group v) gs) ess tag ≡ lookup (λ g. g.tag) [] gs ess tag
groups_at v [] ess tag = refl
groups_at v (g ∷ gs) [] tag = ap (λ o. cond (eqb g.tag tag) (Some []) o) (groups_at v gs [] tag)
groups_at v (g ∷ gs) (es ∷ ess) tag = ap (λ o. cond (eqb g.tag tag) (Some es) o) (groups_at v gs ess tag)

-- ---- what the reader reads, beside what the writer's lines say

-- the writer's lines say it, or else have no such line, and nothing is there
abbrev Said : Result Reading Refusal → ℕ → Reading → Type 0
Said answer tag r = (answer ≡ Ok r) ⊎ ((answer ≡ not_found tag) × NothingIn r)

had_means : (answer : Result Reading Refusal) (tag : ℕ) (m : Meaning) → Said answer tag (means m) → means m ≡ had_or answer (means absent)
had_means answer tag m h = ⊎_elim
    (λ e. ap (λ a. had_or a (means absent)) (sym e))
    (λ e. ap means e.1 ∙ ap (λ a. had_or a (means absent)) (sym e.0))
    h

had_holds : (answer : Result Reading Refusal) (tag : ℕ) (x : List ℕ) → Said answer tag (holds x) → holds x ≡ had_or answer (holds [])
had_holds answer tag x h = ⊎_elim
    (λ e. ap (λ a. had_or a (holds [])) (sym e))
    (λ e. ap holds e.1 ∙ ap (λ a. had_or a (holds [])) (sym e.0))
    h

-- The reader's template is t; the bytes read what the message has by the reader's lines; what those say, the writer's say too; and by both the message has the same entries.
module _ (known : Known) (writer reader : List ℕ) (m : Message) (bs : List ℕ) (w t : Template)
    (found : find m.template (dictionary_of reader).templates ≡ Some t) (differ : Distinct (outer_tags t))
    (read : (group entry tag : ℕ) → frame_reading known reader bs group entry tag ≡ message_reading (dictionary_of reader) m group entry tag)
    (said : (group entry tag : ℕ) (r : Reading) → message_reading (dictionary_of reader) m group entry tag ≡ Ok r → Said (message_reading (dictionary_of writer) m group entry tag) tag r)
    (same : (tag : ℕ) → lookup (λ g. g.tag) [] w.groups m.contents.groups tag ≡ lookup (λ g. g.tag) [] t.groups m.contents.groups tag) where
  -- by the reader's template
  by_its_lines : (group entry tag : ℕ) → message_reading (dictionary_of reader) m group entry tag ≡ in_contents t m.contents group entry tag
  by_its_lines group entry tag = ap (λ o. in_template o m.contents group entry tag) found

  reads_meaning : (group entry tag : ℕ) (y : Meaning) → in_contents t m.contents group entry tag ≡ Ok (means y) → frame_reading known reader bs group entry tag ≡ Ok (had_or (message_reading (dictionary_of writer) m group entry tag) (means absent))
  reads_meaning group entry tag y e =
      let mine : message_reading (dictionary_of reader) m group entry tag ≡ Ok (means y) = by_its_lines group entry tag ∙ e in
      read group entry tag ∙ mine ∙ ap Ok (had_means (message_reading (dictionary_of writer) m group entry tag) tag y (said group entry tag (means y) mine))

  reads_bytes : (group entry tag : ℕ) (y : List ℕ) → in_contents t m.contents group entry tag ≡ Ok (holds y) → frame_reading known reader bs group entry tag ≡ Ok (had_or (message_reading (dictionary_of writer) m group entry tag) (holds []))
  reads_bytes group entry tag y e =
      let mine : message_reading (dictionary_of reader) m group entry tag ≡ Ok (holds y) = by_its_lines group entry tag ∙ e in
      read group entry tag ∙ mine ∙ ap Ok (had_holds (message_reading (dictionary_of writer) m group entry tag) tag y (said group entry tag (holds y) mine))

  root_field : (f : Field) → ReadAt (λ f. f.tag) absent t.root.fields m.contents.root f → frame_reading known reader bs 0 0 f.tag ≡ Ok (had_or (message_reading (dictionary_of writer) m 0 0 f.tag) (means absent))
  root_field f h = reads_meaning 0 0 f.tag h.0 (ap (λ o. of_root (answered o) (data_at t.parts m.contents.parts f.tag) f.tag) h.1)

  -- a data's tag is no field's
  part : (d : Data) → ReadAt (λ d. d.tag) [] t.parts m.contents.parts d → frame_reading known reader bs 0 0 d.tag ≡ Ok (had_or (message_reading (dictionary_of writer) m 0 0 d.tag) (holds []))
  part d h =
      let none = no_field t differ m.contents.parts m.contents.root d.tag h.0 h.1 in
      reads_bytes 0 0 d.tag h.0 (ap₂ (λ o x. of_root (answered o) x d.tag) none h.1)

  -- a group is not the root
  in_group : (g : Group) → GroupRead t.groups m.contents.groups g → (entry tag : ℕ) → in_contents t m.contents g.tag entry tag ≡ in_groups t.groups m.contents.groups g.tag entry tag
  in_group g h entry tag = rw (ne_eqb g.tag 0 h.not_root)

  -- by the writer's groups too
  as_many : (g : Group) (h : GroupRead t.groups m.contents.groups g) → entries_had w.groups m g.tag ≡ length h.entries
  as_many g h = ap count_of (same g.tag ∙ h.had)

  entry_field : (g : Group) → GroupRead t.groups m.contents.groups g → (entry : ℕ) → entry < entries_had w.groups m g.tag →
      AllByRecursion (λ f. frame_reading known reader bs g.tag entry f.tag ≡ Ok (had_or (message_reading (dictionary_of writer) m g.tag entry f.tag) (means absent))) g.block.fields
  entry_field g h entry l =
      let fs = g.block.fields in
      let ms = get_or h.entries entry [] in
      let there : entry < length h.entries = subst (λ n. entry < n) (as_many g h) l in
      All-weaker (ReadAt (λ f. f.tag) absent fs ms) (λ f. frame_reading known reader bs g.tag entry f.tag ≡ Ok (had_or (message_reading (dictionary_of writer) m g.tag entry f.tag) (means absent)))
      (λ f k. reads_meaning g.tag entry f.tag k.0
      (in_group g h entry f.tag ∙ h.reads entry f.tag ∙ entry_there fs h.entries g.tag entry f.tag there ∙ ap (λ o. of_field (answered o) f.tag) k.1))
      fs (each_reads (λ f. f.tag) absent fs ms)

  no_more : (g : Group) → GroupRead t.groups m.contents.groups g → (entry tag : ℕ) → entries_had w.groups m g.tag ≤ entry → frame_reading known reader bs g.tag entry tag ≡ not_found g.tag
  no_more g h entry tag l =
      let past : length h.entries ≤ entry = subst (λ n. n ≤ entry) (as_many g h) l in
      read g.tag entry tag
      ∙ by_its_lines g.tag entry tag
      ∙ in_group g h entry tag
      ∙ h.reads entry tag
      ∙ entry_not_there g.block.fields h.entries g.tag entry tag past

  reads_what_it_has : ReadsWhatTheMessageHas known writer reader m bs w t
  reads_what_it_has =
      let c = m.contents in
      let groups = each_group_reads t.groups c.groups (group_tags_differ t differ) in
      record {
        root_fields = All-weaker (ReadAt (λ f. f.tag) absent t.root.fields c.root) _ root_field t.root.fields (each_reads (λ f. f.tag) absent t.root.fields c.root);
        entry_fields = All-weaker (GroupRead t.groups c.groups) _ entry_field t.groups groups;
        no_more_entries = All-weaker (GroupRead t.groups c.groups) _ no_more t.groups groups;
        parts = All-weaker (ReadAt (λ d. d.tag) [] t.parts c.parts) _ part t.parts (each_reads (λ d. d.tag) [] t.parts c.parts);
      }

-- ---- editions

module _ (known : Known) (lawful : AllLawful known) where
  -- what is there at a version, of what the dictionary has
  at_version : (s : List ℕ) → Checked known s → (number version : ℕ) → template_at (dictionary_of s) number version ≡ found_at version (find number (dictionary_of s).templates)
  at_version s c number version = find_seen version number 0 (dictionary_of s).templates (checked_is_well_formed known (passes_exactly known) s c).numbers

  lacking_at : (s : List ℕ) → Checked known s → (number version : ℕ) → find number (dictionary_of s).templates ≡ None → template_at (dictionary_of s) number version ≡ None
  lacking_at s c number version none = at_version s c number version ∙ ap (found_at version) none

  tags_differ : (s : List ℕ) → Checked known s → (number : ℕ) (t : Template) → find number (dictionary_of s).templates ≡ Some t → Distinct (outer_tags t)
  tags_differ s c number t found =
      let well = checked_is_well_formed known (passes_exactly known) s c in
      (find_holds (GoodTemplate known (dictionary_of s).version) number (dictionary_of s).templates t well.templates found).0.tags

  module _ (earlier later : List ℕ) (ce : Checked known earlier) (cl : Checked known later) (x : EarlierEdition (dictionary_of earlier) (dictionary_of later)) where
    -- both editions' templates of a number have the same groups, by their tags
    groups_same : (number : ℕ) (e l : Template) → find number (dictionary_of earlier).templates ≡ Some e → find number (dictionary_of later).templates ≡ Some l → (ess : List (List (List Meaning))) (tag : ℕ) → lookup (λ g. g.tag) [] e.groups ess tag ≡ lookup (λ g. g.tag) [] l.groups ess tag
    groups_same number e l mine theirs ess tag =
        let has = later_has known (passes_exactly known) earlier later ce cl x number e mine in
        let is : Some has.0 ≡ Some l = sym has.1.0 ∙ theirs in
        let whole : has.0 ≡ l = cc in
        ap (λ t. lookup (λ g. g.tag) [] t.groups ess tag) (has.1.1 ∙ ap (seen_template (dictionary_of earlier).version) whole)
        ∙ groups_at (dictionary_of earlier).version l.groups ess tag

    -- a message's template is there for a later reader
    there_later : (m : Message) (h : Closes known (dictionary_of earlier) m) → template_at (dictionary_of later) m.template m.version ≡ Some h.template
    there_later m h = sym (template_at_earlier (dictionary_of earlier) (dictionary_of later) x m.template m.version h.version) ∙ h.found

    -- and for an earlier one, if it has a template of that number
    there_earlier : (m : Message) (h : Closes known (dictionary_of later) m) (t : Template) → find m.template (dictionary_of earlier).templates ≡ Some t → (seen_as : Template) × (template_at (dictionary_of earlier) m.template m.version ≡ Some seen_as)
    there_earlier m h t found = ⊎_elim
        (λ l.
        let v = (dictionary_of earlier).version in
        let u = m.version in
        let less : min u v ≡ v = omega arith in
        (t, ap (find m.template) (shows_at (dictionary_of earlier) (dictionary_of later) x u ∙ ap (λ k. seen k (dictionary_of later).templates) less ∙ x.templates) ∙ found))
        (λ l. (h.template, template_at_earlier (dictionary_of earlier) (dictionary_of later) x m.template m.version l ∙ h.found))
        (cases_lt (dictionary_of earlier).version m.version)

    -- the later edition reads the closed frames of the earlier one
    pub read_by_later : (m : Message) → Closes known (dictionary_of earlier) m → ReadBy known earlier later m (frame known (dictionary_of earlier) m)
    read_by_later m h =
        let share = editions_share_frames known lawful (passes_exactly known) in
        let across = (share.read_one_another earlier later ce cl x).later_reads m h in
        let says = share.say_the_same earlier later ce cl x in
        let there = there_later m h in
        record {
          lacking = λ none. across.lacking (lacking_at later cl m.template m.version none);
          accepted = λ t found. across.accepted h.template there;
          reads = λ w t wrote found.
              reads_what_it_has known earlier later m (frame known (dictionary_of earlier) m) w t found (tags_differ later cl m.template t found)
              (across.reads h.template there)
              (says.nothing_more m h)
              (groups_same m.template w t wrote found m.contents.groups);
        }

    -- the earlier edition reads those of the later one, of the templates that it has
    pub read_by_earlier : (m : Message) → Closes known (dictionary_of later) m → ReadBy known later earlier m (frame known (dictionary_of later) m)
    read_by_earlier m h =
        let share = editions_share_frames known lawful (passes_exactly known) in
        let across = (share.read_one_another earlier later ce cl x).earlier_reads m h in
        let says = share.say_the_same earlier later ce cl x in
        record {
          lacking = λ none. across.lacking (lacking_at earlier ce m.template m.version none);
          accepted = λ t found. let there = there_earlier m h t found in across.accepted there.0 there.1;
          reads = λ w t wrote found.
              let there = there_earlier m h t found in
              reads_what_it_has known later earlier m (frame known (dictionary_of later) m) w t found (tags_differ earlier ce m.template t found)
              (across.reads there.0 there.1)
              (λ group entry tag r e. inl (says.later_says_it m t found group entry tag r e))
              (λ tag. sym (groups_same m.template t w found wrote m.contents.groups tag));
        }

    -- and so, where the calls by the buffer are the calls by their messages, each reads the closed frame that calls leave under the other
    pub left_read_by_later : (buffer : List ℕ) (ks : List Call) → IsWhatItsMessagesSay known earlier buffer ks → FrameIsReadBy known earlier later buffer ks
    left_read_by_later buffer ks says m bs left is =
        let both : Some (frame known (dictionary_of earlier) m) ≡ Some bs = sym (says.closed_frame m left) ∙ is in
        let same : frame known (dictionary_of earlier) m ≡ bs = cc in
        subst (λ y. ReadBy known earlier later m y) same (read_by_later m (says.closed_closes m left))

    pub left_read_by_earlier : (buffer : List ℕ) (ks : List Call) → IsWhatItsMessagesSay known later buffer ks → FrameIsReadBy known later earlier buffer ks
    left_read_by_earlier buffer ks says m bs left is =
        let both : Some (frame known (dictionary_of later) m) ≡ Some bs = sym (says.closed_frame m left) ∙ is in
        let same : frame known (dictionary_of later) m ≡ bs = cc in
        subst (λ y. ReadBy known later earlier m y) same (read_by_earlier m (says.closed_closes m left))
