-- Editions of a dictionary read each other's frames.
use Rattle.std.proofs.Common.{◌≡◌, ℕ, zero, suc, ◌+◌, ◌<◌, ◌≤◌, min, true, cond, ◌&&◌, eqb, ltb, leb, List, [], ◌∷◌, map, length, take, Some, None, Err, sym, refl, ap, ◌∙◌, subst, ap₂, ⊎_elim, arith}
use Rattle.std.proofs.lemmas.Bool.{lt-ltb, le-leb, eq-eqb, and_from, cases_lt}
use Rattle.std.proofs.lemmas.Bool.Decides.{leb_tells}
use Rattle.wire.specs.declared.refusal.Reason.TheVariants as reason
use Rattle.wire.specs.Bytes.{Bytes}
use Rattle.wire.specs.Refusals.{refusal}
use Rattle.wire.specs.Streams.{frame_length}
use Rattle.types.specs.Meanings.{Meaning, absent}
use Rattle.types.specs.Kinds.{Known, AllLawful}
use Rattle.schema.specs.Verdicts.{fine, rule, ◌then◌}
use Rattle.schema.specs.Structure.{Field, Group, Template}
use Rattle.schema.specs.Reading.{dictionary_of}
use Rattle.schema.specs.Seen.{seen_template, seen, find, template_at}
use Rattle.schema.specs.WellFormed.{GoodTemplate, WellFormed}
use Rattle.schema.specs.Editions.{EarlierEdition}
use Rattle.schema.specs.Laws.{PassesExactlyAsWrittenOut, Checked}
use Rattle.schema.proofs.SeenTwice.{seen_twice}
use Rattle.schema.proofs.VersionsWellFormed.{numbered_at}
use Rattle.schema.proofs.EditionLaws.{shows_at, found_at, find_seen, template_at_earlier}
use Rattle.schema.proofs.EditionsAgree.{checked_is_well_formed}
use Rattle.message.specs.Frames.{Contents, contents_bytes, stated}
use Rattle.message.specs.Messages.{Message, slot_of, group_view, data_view, view_of, frame_of, frame_by, frame, template_geometry, is_there, contents_by, frame_verdict, message_of, Closes}
use Rattle.message.specs.Lookup.{not_found, of_field, of_root, lookup, answered, in_entries, in_groups, in_contents, in_template, message_reading, frame_reading}
use Rattle.message.specs.Laws.{ReadAcross, EditionsReadOneAnother}
use Rattle.message.proofs.Verdicts.{passing}
use Rattle.message.proofs.Passing.{two_bytes, ViewReads, cut_groups, cut_to, contents_pass}
use Rattle.message.proofs.Views.{found_good, found_sound, uncut, view_reads_itself}
use Rattle.message.proofs.Exact.{headed, read_by}
use Rattle.message.proofs.FrameReading.{reads_as_its_message}
use Rattle.message.proofs.Older.{view_reads_more}

-- ---- lines read in a cut what they read in all

lookup_cut : {L X Y : Type 0} (tag_of : L → ℕ) (d : X) (f : L → Y) (ls : List L) (xs : List X) (tag : ℕ) → lookup tag_of d ls (take (length (map f ls)) xs) tag ≡ lookup tag_of d ls xs tag
lookup_cut tag_of d f [] xs tag = refl
lookup_cut tag_of d f (l ∷ ls) [] tag = refl
lookup_cut tag_of d f (l ∷ ls) (x ∷ xs) tag = ap (λ o. cond (eqb (tag_of l) tag) (Some x) o) (lookup_cut tag_of d f ls xs tag)

module _ (known : Known) where
  entries_cut : (fs : List Field) (es : List (List Meaning)) (group entry tag : ℕ) → in_entries fs (map (λ ms. take (length (map (slot_of known) fs)) ms) es) group entry tag ≡ in_entries fs es group entry tag
  entries_cut fs [] group entry tag = refl
  entries_cut fs (ms ∷ es) group zero tag = ap (λ o. of_field (answered o) tag) (lookup_cut (λ f. f.tag) absent (slot_of known) fs ms tag)
  entries_cut fs (ms ∷ es) group (suc entry) tag = entries_cut fs es group entry tag

  groups_cut : (gs : List Group) (ess : List (List (List Meaning))) (group entry tag : ℕ) → in_groups gs (cut_groups (map (group_view known) gs) ess) group entry tag ≡ in_groups gs ess group entry tag
  groups_cut [] ess group entry tag = refl
  groups_cut (g ∷ gs) [] group entry tag = refl
  groups_cut (g ∷ gs) (es ∷ ess) group entry tag = ap₂ (λ x y. cond (eqb g.tag group) x y) (entries_cut g.block.fields es group entry tag) (groups_cut gs ess group entry tag)

  contents_cut : (t : Template) (c : Contents) (group entry tag : ℕ) → in_contents t (cut_to (view_of known t) c) group entry tag ≡ in_contents t c group entry tag
  contents_cut t c group entry tag =
      let fields = lookup_cut (λ f. f.tag) absent (slot_of known) t.root.fields c.root tag in
      let parts = lookup_cut (λ d. d.tag) [] data_view t.parts c.parts tag in
      let groups = groups_cut t.groups c.groups group entry tag in
      λ i. cond (eqb group 0) (cond (eqb entry 0) (of_root (answered (fields i)) (parts i) tag) (not_found 0)) (groups i)

-- ---- one dictionary's frame under another

module _ (known : Known) (lawful : AllLawful known) (exact : (s : List ℕ) → Bytes s → PassesExactlyAsWrittenOut known s) where
  module _ (w r : List ℕ) (cw : Checked known w) (cr : Checked known r) (ids : (dictionary_of r).schema ≡ (dictionary_of w).schema) (m : Message) (h : Closes known (dictionary_of w) m) where
    abbrev body : List ℕ
    body = contents_bytes (view_of known h.template) m.contents

    well : WellFormed known (dictionary_of w)
    well = checked_is_well_formed known exact w cw

    -- the frame, with the reader's schema id
    frame_is : frame known (dictionary_of w) m ≡ frame_of known (dictionary_of r).schema h.template m
    frame_is = ap₂ (λ i o. frame_by known i o m) (sym ids) h.found

    good : GoodTemplate known m.version h.template × (h.template.number ≡ m.template)
    good = found_good known lawful (dictionary_of w) well m.template m.version h.template h.found

    number_fits : m.template < 65536
    number_fits = let k = good.0.number_fits in let e = good.1 in omega arith

    version_fits : m.version < 65536
    version_fits = let k = well.version_fits in let l = h.version in omega arith

    size_fits : h.template.root.size < 65536
    size_fits = let k = good.0.root.size_fits in omega arith

    id_fits : (dictionary_of r).schema < 65536
    id_fits = let k = well.schema_fits in let e = ids in omega arith

    short : 12 + length (contents_bytes (view_of known h.template) m.contents) ≤ 16384
    short = let k : length (frame_of known (dictionary_of r).schema h.template m) ≤ 16384 = subst (λ x. length x ≤ 16384) frame_is h.short in omega arith

    lacking : template_at (dictionary_of r) m.template m.version ≡ None → frame_verdict known r (frame known (dictionary_of w) m) ≡ Err (refusal reason.UnknownTemplate 6 0)
    lacking none =
        let d = dictionary_of r in
        let all = frame_of known d.schema h.template m in
        let fits = short in
        let e0 : stated all 0 ≡ 12 + length body = two_bytes (12 + length body) (omega arith) in
        let e6 : stated all 6 ≡ m.template = two_bytes m.template number_fits in
        let e8 : stated all 8 ≡ d.schema = two_bytes d.schema id_fits in
        let e10 : stated all 10 ≡ m.version = two_bytes m.version version_fits in
        let at : template_at d (stated all 6) (stated all 10) ≡ None = ap₂ (template_at d) e6 e10 ∙ none in
        let low : leb 12 (length all) ≡ true = le-leb 12 (length all) (omega arith) in
        let high : leb (length all) 16384 ≡ true = le-leb (length all) 16384 (omega arith) in
        let whole : eqb (stated all 0) (length all) ≡ true = eq-eqb (stated all 0) (length all) (omega arith) in
        let r10 : (frame_length (length all) && eqb (stated all 0) (length all)) ≡ true = and_from _ _ (and_from _ _ low high) whole in
        let r12 : eqb (stated all 8) d.schema ≡ true = eq-eqb _ _ e8 in
        let refused : rule (is_there (template_at d (stated all 6) (stated all 10))) reason.UnknownTemplate 6 0
        then template_geometry known r (stated all 6) (stated all 10)
        then contents_by known true (ltb d.version (stated all 10)) (template_at d (stated all 6) (stated all 10)) (stated all 4) body ≡ Err (refusal reason.UnknownTemplate 6 0) =
        ap (λ o. rule (is_there o) reason.UnknownTemplate 6 0 then template_geometry known r (stated all 6) (stated all 10) then contents_by known true (ltb d.version (stated all 10)) o (stated all 4) body) at in
        ap (frame_verdict known r) frame_is ∙ passing _ _ _ r10 ∙ passing _ _ _ r12 ∙ refused

    module _ (t : Template) (found : template_at (dictionary_of r) m.template m.version ≡ Some t) (x : ViewReads (ltb (dictionary_of r).version m.version) (view_of known t) (view_of known h.template)) where
      heard : frame_verdict known r (frame known (dictionary_of w) m) ≡ fine
      heard =
          ap (frame_verdict known r) frame_is
          ∙ headed known true r cr h.template.root.size m.template m.version body t short size_fits number_fits id_fits version_fits found
          ∙ contents_pass true (ltb (dictionary_of r).version m.version) (view_of known t) (view_of known h.template) m.contents x h.right 12

      got : message_of known (dictionary_of r) (frame known (dictionary_of w) m) ≡ record { template = m.template; version = m.version; contents = cut_to (view_of known t) m.contents }
      got =
          ap (message_of known (dictionary_of r)) frame_is
          ∙ read_by known true (ltb (dictionary_of r).version m.version) (dictionary_of r) (dictionary_of r).schema m.template m.version t h.template m.contents number_fits version_fits size_fits found x h.right

      -- what is read, once it is clear that the reader's lines read in the cut what they read in all
      read : ((group entry tag : ℕ) → in_template (find m.template (dictionary_of r).templates) (cut_to (view_of known t) m.contents) group entry tag ≡ message_reading (dictionary_of r) m group entry tag) →
          (group entry tag : ℕ) → frame_reading known r (frame known (dictionary_of w) m) group entry tag ≡ message_reading (dictionary_of r) m group entry tag
      read same group entry tag =
          reads_as_its_message known exact r cr true (frame known (dictionary_of w) m) heard group entry tag
          ∙ ap (λ y. message_reading (dictionary_of r) y group entry tag) got
          ∙ same group entry tag

    -- the reader sees at the message's version what the writer sees
    alike : template_at (dictionary_of r) m.template m.version ≡ template_at (dictionary_of w) m.template m.version → ReadAcross known w r m
    alike e =
        let t = h.template in
        let found : template_at (dictionary_of r) m.template m.version ≡ Some t = e ∙ h.found in
        let sound = found_sound known lawful (dictionary_of w) well m.template m.version t h.found in
        let x = view_reads_itself (ltb (dictionary_of r).version m.version) (view_of known t) sound in
        let whole = uncut true (view_of known t) m.contents h.right in
        record {
          lacking = lacking;
          accepted = λ _ _. heard t found x;
          reads = λ _ _. read t found x (λ group entry tag. ap (λ y. in_template (find m.template (dictionary_of r).templates) y group entry tag) whole);
        }

    -- the reader is older than the message and has of its template what was seen at v
    older : (v : ℕ) → (dictionary_of r).version < m.version → find m.template (dictionary_of r).templates ≡ template_at (dictionary_of r) m.template m.version →
        ((t : Template) → template_at (dictionary_of r) m.template m.version ≡ Some t → t ≡ seen_template v h.template) → ReadAcross known w r m
    older v l all is =
        let newer : ltb (dictionary_of r).version m.version ≡ true = lt-ltb _ _ l in
        let sound = found_sound known lawful (dictionary_of w) well m.template m.version h.template h.found in
        let x : (t : Template) → template_at (dictionary_of r) m.template m.version ≡ Some t → ViewReads (ltb (dictionary_of r).version m.version) (view_of known t) (view_of known h.template) =
        λ t f. subst (λ b. ViewReads b (view_of known t) (view_of known h.template)) (sym newer) (subst (λ y. ViewReads true (view_of known y) (view_of known h.template)) (sym (is t f)) (view_reads_more known v h.template sound)) in
        record {
          lacking = lacking;
          accepted = λ t f. heard t f (x t f);
          reads = λ t f. read t f (x t f)
              (λ group entry tag.
              ap (λ o. in_template o (cut_to (view_of known t) m.contents) group entry tag) (all ∙ f)
              ∙ contents_cut known t m.contents group entry tag
              ∙ ap (λ o. in_template o m.contents group entry tag) (sym (all ∙ f)));
        }

  -- ---- editions

  module _ (e d : List ℕ) (ce : Checked known e) (cd : Checked known d) (x : EarlierEdition (dictionary_of e) (dictionary_of d)) where
    -- a template of the later edition, as the earlier one has it at a version above its own
    above : (n u : ℕ) (w : Template) → (dictionary_of e).version < u → template_at (dictionary_of d) n u ≡ Some w → (t : Template) → template_at (dictionary_of e) n u ≡ Some t → t ≡ seen_template (dictionary_of e).version w
    above n u w l a t b =
        let v = (dictionary_of e).version in
        let ts = (dictionary_of d).templates in
        let numbers = (checked_is_well_formed known exact d cd).numbers in
        let less : min u v ≡ min v u = omega arith in
        let shown : template_at (dictionary_of e) n u ≡ find n (seen v (seen u ts)) = ap (find n) (shows_at (dictionary_of e) (dictionary_of d) x u ∙ ap (λ k. seen k ts) less ∙ sym (seen_twice v u ts)) in
        let found : find n (seen v (seen u ts)) ≡ found_at v (Some w) = find_seen v n 0 (seen u ts) (numbered_at u 0 ts numbers) ∙ ap (found_at v) a in
        let is : cond (leb w.since v) (Some (seen_template v w)) None ≡ Some t = sym (shown ∙ found) ∙ b in
        ⊎_elim
        (λ c. let q : Some (seen_template v w) ≡ Some t = rw c.0 at is in let k : seen_template v w ≡ t = cc in sym k)
        (λ c. let q : None ≡ Some t = rw c.0 at is in let z : ◌≡◌ {A = ℕ} 0 1 = cc in absurd (omega arith))
        (leb_tells w.since v)

    -- above its own version the earlier edition shows all that it has
    all_shown : (n u : ℕ) → (dictionary_of e).version < u → find n (dictionary_of e).templates ≡ template_at (dictionary_of e) n u
    all_shown n u l =
        let v = (dictionary_of e).version in
        let less : v ≡ min u v = omega arith in
        ap (find n) (sym x.templates ∙ ap (λ k. seen k (dictionary_of d).templates) less ∙ sym (shows_at (dictionary_of e) (dictionary_of d) x u))

    pub editions_read_one_another : EditionsReadOneAnother known e d
    editions_read_one_another = record {
      later_reads = λ m h. alike e d ce cd (sym x.schema) m h (sym (template_at_earlier (dictionary_of e) (dictionary_of d) x m.template m.version h.version));
      earlier_reads = λ m h. ⊎_elim
          (λ l. older d e cd ce x.schema m h (dictionary_of e).version l (all_shown m.template m.version l) (above m.template m.version h.template l h.found))
          (λ l. alike d e cd ce x.schema m h (template_at_earlier (dictionary_of e) (dictionary_of d) x m.template m.version l))
          (cases_lt (dictionary_of e).version m.version);
    }
