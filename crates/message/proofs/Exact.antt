-- Up to the dictionary's version bytes are accepted exactly if they are the frame of a message, and they read as it.
use Rattle.std.proofs.Common.{◌≡◌, ℕ, ◌+◌, ◌<◌, ◌≤◌, Bool, true, false, ◌&&◌, eqb, ltb, leb, List, ◌++◌, length, drop, Some, None, Ok, Err, Option, sym, refl, ap, ◌∙◌, subst, ap₂, arith, length-drop}
use Rattle.std.proofs.lemmas.List.{drop-drop, take-append-drop}
use Rattle.std.proofs.ByRecursion.{All-drop}
use Rattle.std.proofs.lemmas.Bool.{leb-true, eqb-true, le-leb, le-ltb, eq-eqb, and_parts, and_from}
use Rattle.wire.specs.declared.refusal.Refusal.{Refusal}
use Rattle.wire.specs.Bytes.{Bytes}
use Rattle.wire.specs.Numbers.{le_bytes}
use Rattle.wire.specs.Streams.{frame_length}
use Rattle.types.specs.Kinds.{Known, AllLawful}
use Rattle.schema.specs.Verdicts.{Verdict, fine, ◌then◌}
use Rattle.schema.specs.Structure.{Template, Dictionary}
use Rattle.schema.specs.Reading.{dictionary_of}
use Rattle.schema.specs.Seen.{template_at}
use Rattle.schema.specs.WellFormed.{GoodTemplate, WellFormed}
use Rattle.schema.specs.Laws.{PassesExactlyAsWrittenOut, Checked}
use Rattle.schema.proofs.EditionsAgree.{checked_is_well_formed}
use Rattle.message.specs.Frames.{Contents, contents_bytes, stated, contents_verdict, contents_read, Holds}
use Rattle.message.specs.Messages.{Message, view_of, header, frame_of, frame_by, frame, template_geometry, is_there, contents_by, stated_root, stated_template, stated_schema, stated_version, verdict_when, contents_read_by, message_of, Stands}
use Rattle.message.specs.Laws.{AcceptedExactlyAsAFrame, FramesCarryMessages}
use Rattle.message.proofs.Verdicts.{both, told, passing}
use Rattle.message.proofs.Passing.{two_bytes, ViewReads, cut_to, contents_pass, contents_back}
use Rattle.message.proofs.Making.{number_front, contents_made}
use Rattle.message.proofs.Views.{SoundView, found_good, found_sound, uncut, view_reads_itself}
use Rattle.message.proofs.Found.{geometry_passes}
use Rattle.message.proofs.InBytes.{both_bytes, contents_in_bytes, header_in_bytes}

-- ---- the header

-- the two bytes at a place are those of the number that they state
stated_front : (p : ℕ) (bs : List ℕ) → Bytes bs → p + 2 ≤ length bs → drop p bs ≡ le_bytes 2 (stated bs p) ++ drop (p + 2) bs
stated_front p bs y l =
    sym (take-append-drop 2 (drop p bs))
    ∙ ap₂ (λ x xs. x ++ xs) (sym (number_front 2 (drop p bs) (All-drop (λ b. b < 256) p bs y) (rw length-drop (omega arith)))) (drop-drop 2 p bs)

-- bytes begin with the header that they state
pub header_front : (bs : List ℕ) → Bytes bs → 12 ≤ length bs → stated bs 2 ≡ 0xEB50 → bs ≡ header (stated bs 0) (stated_root bs) (stated_template bs) (stated_schema bs) (stated_version bs) ++ drop 12 bs
header_front bs y l e =
    stated_front 0 bs y (omega arith)
    ∙ ap (λ r. le_bytes 2 (stated bs 0) ++ r) (stated_front 2 bs y (omega arith) ∙ ap₂ (λ n r. le_bytes 2 n ++ r) e (stated_front 4 bs y (omega arith)
    ∙ ap (λ r. le_bytes 2 (stated bs 4) ++ r) (stated_front 6 bs y (omega arith)
    ∙ ap (λ r. le_bytes 2 (stated bs 6) ++ r) (stated_front 8 bs y (omega arith)
    ∙ ap (λ r. le_bytes 2 (stated bs 8) ++ r) (stated_front 10 bs y (omega arith))))))

module _ (known : Known) (closed : Bool) (s : List ℕ) (c : Checked known s) where
  -- what the header says is what is checked
  pub headed : (size n u : ℕ) (bs : List ℕ) (t : Template) → 12 + length bs ≤ 16384 → size < 65536 → n < 65536 → (dictionary_of s).schema < 65536 → u < 65536 → template_at (dictionary_of s) n u ≡ Some t →
      verdict_when closed known s (header (12 + length bs) size n (dictionary_of s).schema u ++ bs) ≡ contents_verdict closed (ltb (dictionary_of s).version u) (view_of known t) size 12 bs
  headed size n u bs t short size_fits n_fits id_fits u_fits found =
      let d = dictionary_of s in
      let all = header (12 + length bs) size n d.schema u ++ bs in
      let e0 : stated all 0 ≡ 12 + length bs = two_bytes (12 + length bs) (omega arith) in
      let e4 : stated all 4 ≡ size = two_bytes size size_fits in
      let e6 : stated all 6 ≡ n = two_bytes n n_fits in
      let e8 : stated all 8 ≡ d.schema = two_bytes d.schema id_fits in
      let e10 : stated all 10 ≡ u = two_bytes u u_fits in
      let at : template_at d (stated all 6) (stated all 10) ≡ Some t = ap₂ (template_at d) e6 e10 ∙ found in
      let low : leb 12 (length all) ≡ true = le-leb 12 (length all) (omega arith) in
      let high : leb (length all) 16384 ≡ true = le-leb (length all) 16384 (omega arith) in
      let whole : eqb (stated all 0) (length all) ≡ true = eq-eqb (stated all 0) (length all) (omega arith) in
      let r10 : (frame_length (length all) && eqb (stated all 0) (length all)) ≡ true = and_from _ _ (and_from _ _ low high) whole in
      let r12 : eqb (stated all 8) d.schema ≡ true = eq-eqb _ _ e8 in
      let r13 : is_there (template_at d (stated all 6) (stated all 10)) ≡ true = ap is_there at in
      let rest : template_geometry known s (stated all 6) (stated all 10) then contents_by known closed (ltb d.version (stated all 10)) (template_at d (stated all 6) (stated all 10)) (stated all 4) bs ≡ contents_verdict closed (ltb d.version u) (view_of known t) size 12 bs =
      ap (λ v. v then contents_by known closed (ltb d.version (stated all 10)) (template_at d (stated all 6) (stated all 10)) (stated all 4) bs) (geometry_passes known s c (stated all 6) (stated all 10))
      ∙ (λ i. contents_by known closed (ltb d.version (e10 i)) (at i) (e4 i) bs) in
      passing _ _ _ r10 ∙ passing _ _ _ r12 ∙ passing _ _ _ r13 ∙ rest

-- what a reader finds in a frame that was written by the template w
pub read_by : (known : Known) (closed newer : Bool) (d : Dictionary) (id n u : ℕ) (t w : Template) (c : Contents) →
    n < 65536 → u < 65536 → w.root.size < 65536 → template_at d n u ≡ Some t → ViewReads newer (view_of known t) (view_of known w) → Holds closed (view_of known w) c →
    message_of known d (frame_of known id w (record { template = n; version = u; contents = c })) ≡ record { template = n; version = u; contents = cut_to (view_of known t) c }
read_by known closed newer d id n u t w c n_fits u_fits size_fits found reads holds =
    let bs = contents_bytes (view_of known w) c in
    let all = header (12 + length bs) w.root.size n id u ++ bs in
    let e4 : stated all 4 ≡ w.root.size = two_bytes w.root.size size_fits in
    let e6 : stated all 6 ≡ n = two_bytes n n_fits in
    let e10 : stated all 10 ≡ u = two_bytes u u_fits in
    let at : template_at d (stated all 6) (stated all 10) ≡ Some t = ap₂ (template_at d) e6 e10 ∙ found in
    let k : contents_read_by known (template_at d (stated all 6) (stated all 10)) (stated all 4) bs ≡ cut_to (view_of known t) c =
    (λ i. contents_read_by known (at i) (e4 i) bs) ∙ contents_back closed newer (view_of known t) (view_of known w) c reads holds in
    λ i. record { template = e6 i; version = e10 i; contents = k i }

module _ (known : Known) (lawful : AllLawful known) (exact : (s : List ℕ) → Bytes s → PassesExactlyAsWrittenOut known s) (closed : Bool) (s : List ℕ) (c : Checked known s) where
  well : WellFormed known (dictionary_of s)
  well = checked_is_well_formed known exact s c

  -- ---- the frame of a message

  module _ (m : Message) (h : Stands closed known (dictionary_of s) m) where
    abbrev body : List ℕ
    body = contents_bytes (view_of known h.template) m.contents

    frame_is : frame known (dictionary_of s) m ≡ frame_of known (dictionary_of s).schema h.template m
    frame_is = ap (λ o. frame_by known (dictionary_of s).schema o m) h.found

    good : GoodTemplate known m.version h.template × (h.template.number ≡ m.template)
    good = found_good known lawful (dictionary_of s) well m.template m.version h.template h.found

    sound : SoundView (view_of known h.template)
    sound = found_sound known lawful (dictionary_of s) well m.template m.version h.template h.found

    number_fits : m.template < 65536
    number_fits = let k = good.0.number_fits in let e = good.1 in omega arith

    version_fits : m.version < 65536
    version_fits = let k = well.version_fits in let l = h.version in omega arith

    size_fits : h.template.root.size < 65536
    size_fits = let k = good.0.root.size_fits in omega arith

    pub passed : verdict_when closed known s (frame known (dictionary_of s) m) ≡ fine
    passed =
        let d = dictionary_of s in
        let id_fits : d.schema < 65536 = let k = well.schema_fits in omega arith in
        let all : length (frame_of known d.schema h.template m) ≤ 16384 = subst (λ x. length x ≤ 16384) frame_is h.short in
        let short : 12 + length (contents_bytes (view_of known h.template) m.contents) ≤ 16384 = omega arith in
        subst (λ x. verdict_when closed known s x ≡ fine) (sym frame_is)
        (headed known closed s c h.template.root.size m.template m.version (contents_bytes (view_of known h.template) m.contents) h.template short size_fits number_fits id_fits version_fits h.found
        ∙ contents_pass closed (ltb d.version m.version) (view_of known h.template) (view_of known h.template) m.contents (view_reads_itself _ (view_of known h.template) sound) h.right 12)

    pub in_bytes : Bytes (frame known (dictionary_of s) m)
    in_bytes = subst Bytes (sym frame_is) (both_bytes (header (12 + length body) h.template.root.size m.template (dictionary_of s).schema m.version) body
        (header_in_bytes (12 + length body) h.template.root.size m.template (dictionary_of s).schema m.version) (contents_in_bytes closed (view_of known h.template) m.contents sound h.right))

    pub read_again : message_of known (dictionary_of s) (frame known (dictionary_of s) m) ≡ m
    read_again =
        ap (message_of known (dictionary_of s)) frame_is
        ∙ read_by known closed false (dictionary_of s) (dictionary_of s).schema m.template m.version h.template h.template m.contents number_fits version_fits size_fits h.found (view_reads_itself false (view_of known h.template) sound) h.right
        ∙ (λ i. record { template = m.template; version = m.version; contents = uncut closed (view_of known h.template) m.contents h.right i })

  pub carried : FramesCarryMessages closed known s
  carried = record {
    accepted = passed;
    in_bytes = in_bytes;
    read_back = read_again;
    equal_frames = λ m n h k e. sym (read_again m h) ∙ ap (message_of known (dictionary_of s)) e ∙ read_again n k;
    equal_messages = λ m n e. ap (frame known (dictionary_of s)) e;
  }

  -- ---- bytes that are accepted

  module _ (bs : List ℕ) (y : Bytes bs) (l : stated_version bs ≤ (dictionary_of s).version) where
    pub record IsFrame : Type 0 where
      pub stands : Stands closed known (dictionary_of s) (message_of known (dictionary_of s) bs)
      pub again : frame known (dictionary_of s) (message_of known (dictionary_of s) bs) ≡ bs

    is_frame_by : (o : Option Template) → template_at (dictionary_of s) (stated_template bs) (stated_version bs) ≡ o → 12 ≤ length bs → length bs ≤ 16384 → stated bs 0 ≡ length bs → stated bs 2 ≡ 0xEB50 → stated_schema bs ≡ (dictionary_of s).schema → is_there o ≡ true →
        contents_by known closed (ltb (dictionary_of s).version (stated_version bs)) o (stated_root bs) (drop 12 bs) ≡ fine → IsFrame
    is_frame_by None found low high whole encoding id there k = let z : ◌≡◌ {A = ℕ} 0 1 = cc in absurd (omega arith)
    is_frame_by (Some t) found low high whole encoding id there k =
        let d = dictionary_of s in
        let v = view_of known t in
        let b = drop 12 bs in
        let sound = found_sound known lawful d well (stated_template bs) (stated_version bs) t found in
        let k0 : contents_verdict closed false v (stated_root bs) 12 b ≡ fine = subst (λ x. contents_verdict closed x v (stated_root bs) 12 b ≡ fine) (le-ltb _ _ l) k in
        let z : stated_root bs ≡ t.root.size = eqb-true _ _ (told (eqb (stated_root bs) t.root.size) _ _ k0).0 in
        let k1 : contents_verdict closed false v t.root.size 12 b ≡ fine = subst (λ x. contents_verdict closed false v x 12 b ≡ fine) z k0 in
        let made = contents_made closed v 12 b (All-drop (λ x. x < 256) 12 bs y) sound.root sound.groups k1 in
        let m = message_of known d bs in
        let read : m.contents ≡ contents_read v t.root.size b = λ i. contents_read_by known (found i) (z i) b in
        let body : contents_bytes v m.contents ≡ b = ap (contents_bytes v) read ∙ sym made.same in
        let long : 12 + length (contents_bytes v m.contents) ≡ stated bs 0 = ap (λ x. 12 + length x) body ∙ rw length-drop (omega arith) in
        let is : frame known d m ≡ bs =
        ap (λ x. frame_by known d.schema x m) found
        ∙ (λ j. header (long j) (sym z j) (stated_template bs) (sym id j) (stated_version bs) ++ body j)
        ∙ sym (header_front bs y low encoding) in
        record {
          stands = record { template = t; found = found; version = l; right = subst (Holds closed v) (sym read) made.right; short = subst (λ x. length x ≤ 16384) (sym is) high };
          again = is;
        }

    is_frame : verdict_when closed known s bs ≡ fine → IsFrame
    is_frame e =
        let d = dictionary_of s in
        let o = template_at d (stated_template bs) (stated_version bs) in
        let a = told (frame_length (length bs) && eqb (stated bs 0) (length bs)) _ _ e in
        let a1 = and_parts (frame_length (length bs)) (eqb (stated bs 0) (length bs)) a.0 in
        let a2 = and_parts (leb 12 (length bs)) (leb (length bs) 16384) a1.0 in
        let b = told (eqb (stated bs 2) 0xEB50) _ _ a.1 in
        let i = told (eqb (stated_schema bs) d.schema) _ _ b.1 in
        let f = told (is_there o) _ _ i.1 in
        let g = both (template_geometry known s (stated_template bs) (stated_version bs)) _ f.1 in
        is_frame_by o refl (leb-true _ _ a2.0) (leb-true _ _ a2.1) (eqb-true _ _ a1.1) (eqb-true _ _ b.0) (eqb-true _ _ i.0) f.0 g.1

    clash : (v : Verdict) (e : Refusal) → v ≡ fine → v ≡ Err e → ⊥
    clash v e p q = let z : ◌≡◌ {A = ℕ} 0 1 = cc in omega arith

    some_refusal : (v : Verdict) → (v ≡ fine → ⊥) → (e : Refusal) × (v ≡ Err e)
    some_refusal (Ok x) h = absurd (h refl)
    some_refusal (Err e) h = (e, refl)

    pub accepted_exactly : AcceptedExactlyAsAFrame closed known s bs
    accepted_exactly = record {
      stands = λ e. (is_frame e).stands;
      written_again = λ e. (is_frame e).again;
      accepted = λ m h e. subst (λ x. verdict_when closed known s x ≡ fine) e (passed m h);
      read_back = λ m h e. ap (message_of known (dictionary_of s)) (sym e) ∙ read_again m h;
      refused_is_none = λ r e m h f. clash (verdict_when closed known s bs) r (subst (λ x. verdict_when closed known s x ≡ fine) f (passed m h)) e;
      none_is_refused = λ none. some_refusal (verdict_when closed known s bs) (λ e. none (message_of known (dictionary_of s) bs) (is_frame e).stands (is_frame e).again);
    }
