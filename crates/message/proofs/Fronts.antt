-- A buffer's front is taken for a message exactly if it is its frame.
use Rattle.std.proofs.Common.{◌≡◌, ℕ, ◌<◌, ◌≤◌, Bool, true, false, cond, ◌&&◌, eqb, leb, List, ◌++◌, length, take, Some, None, Ok, Err, sym, refl, ap, ◌∙◌, subst, arith, length-append}
use Rattle.std.proofs.lemmas.List.{take_at, length-take-le}
use Rattle.std.proofs.ByRecursion.{All-take}
use Rattle.std.proofs.lemmas.Bool.{and_from, and_parts, eq-eqb, le-leb, eqb-true, leb-true}
use Rattle.wire.specs.Bytes.{Bytes}
use Rattle.types.specs.Kinds.{Known, AllLawful}
use Rattle.schema.specs.Verdicts.{Verdict, fine}
use Rattle.schema.specs.Reading.{dictionary_of}
use Rattle.schema.specs.Laws.{PassesExactlyAsWrittenOut, Checked}
use Rattle.message.specs.Messages.{Message, frame, stated_template, stated_version, verdict_when, message_of, Stands}
use Rattle.message.specs.Fronts.{is_fine, is_frame_of, front_message}
use Rattle.message.specs.Laws.{AcceptedExactlyAsAFrame, FrontsAreFrames}
use Rattle.message.proofs.Exact.{passed, read_again, accepted_exactly}

pub fine_from : (v : Verdict) → is_fine v ≡ true → v ≡ fine
fine_from (Ok x) e = refl
fine_from (Err r) e = let z : ◌≡◌ {A = ℕ} 0 1 = cc in absurd (omega arith)

pub taken : {X : Type 0} (b : Bool) (x y : X) → cond b (Some x) None ≡ Some y → (b ≡ true) × (x ≡ y)
taken true x y e = (refl, cc)
taken false x y e = let z : ◌≡◌ {A = ℕ} 0 1 = cc in absurd (omega arith)

module _ (known : Known) (lawful : AllLawful known) (exact : (s : List ℕ) → Bytes s → PassesExactlyAsWrittenOut known s) (s : List ℕ) (c : Checked known s) where
  -- what the front of a buffer is where a message is found in it
  record Front (number version n : ℕ) (buffer : List ℕ) (m : Message) : Type 0 where
    pub long : n ≤ length buffer
    pub number_is : stated_template (take n buffer) ≡ number
    pub version_is : stated_version (take n buffer) ≡ version
    pub exactly : AcceptedExactlyAsAFrame false known s (take n buffer)
    pub accepted : verdict_when false known s (take n buffer) ≡ fine
    pub is : message_of known (dictionary_of s) (take n buffer) ≡ m

  front : (number version n : ℕ) (buffer : List ℕ) → Bytes buffer → (m : Message) → front_message known s number version n buffer ≡ Some m → Front number version n buffer m
  front number version n buffer y m e =
      let bs = take n buffer in
      let t = taken (leb n (length buffer) && is_frame_of known s number version bs) (message_of known (dictionary_of s) bs) m e in
      let a = and_parts (leb n (length buffer)) (is_frame_of known s number version bs) t.0 in
      let b = and_parts (eqb (stated_template bs) number && eqb (stated_version bs) version) (leb version (dictionary_of s).version && is_fine (verdict_when false known s bs)) a.1 in
      let b1 = and_parts (eqb (stated_template bs) number) (eqb (stated_version bs) version) b.0 in
      let b2 = and_parts (leb version (dictionary_of s).version) (is_fine (verdict_when false known s bs)) b.1 in
      let is_version : stated_version bs ≡ version = eqb-true _ _ b1.1 in
      let below : version ≤ (dictionary_of s).version = leb-true _ _ b2.0 in
      record {
        long = leb-true _ _ a.0;
        number_is = eqb-true _ _ b1.0;
        version_is = is_version;
        exactly = accepted_exactly known lawful exact false s c bs (All-take (λ x. x < 256) n buffer y) (omega arith);
        accepted = fine_from _ b2.1;
        is = t.1;
      }

  again : (number version n : ℕ) (buffer : List ℕ) (m : Message) → Front number version n buffer m → frame known (dictionary_of s) m ≡ take n buffer
  again number version n buffer m f = ap (frame known (dictionary_of s)) (sym f.is) ∙ f.exactly.written_again f.accepted

  found : (m : Message) (rest : List ℕ) → Stands false known (dictionary_of s) m → front_message known s m.template m.version (length (frame known (dictionary_of s) m)) (frame known (dictionary_of s) m ++ rest) ≡ Some m
  found m rest h =
      let d = dictionary_of s in
      let f = frame known d m in
      let back = read_again known lawful exact false s c m h in
      let is : take (length f) (f ++ rest) ≡ f = take_at f rest (length f) refl in
      let long : leb (length f) (length (f ++ rest)) ≡ true = le-leb _ _ (simp length-append (omega arith)) in
      let number_is : eqb (stated_template f) m.template ≡ true = eq-eqb _ _ (ap (λ x. x.template) back) in
      let version_is : eqb (stated_version f) m.version ≡ true = eq-eqb _ _ (ap (λ x. x.version) back) in
      let below : leb m.version d.version ≡ true = le-leb _ _ h.version in
      let good : is_fine (verdict_when false known s f) ≡ true = ap is_fine (passed known lawful exact false s c m h) in
      let all : (leb (length f) (length (f ++ rest)) && is_frame_of known s m.template m.version f) ≡ true = and_from _ _ long (and_from _ _ (and_from _ _ number_is version_is) (and_from _ _ below good)) in
      ap (λ bs. cond (leb (length f) (length (f ++ rest)) && is_frame_of known s m.template m.version bs) (Some (message_of known d bs)) None) is
      ∙ ap (λ b. cond b (Some (message_of known d f)) None) all
      ∙ ap Some back

  pub fronts_are_frames : FrontsAreFrames known s
  fronts_are_frames = record {
    stands = λ number version n buffer y m e. let f = front number version n buffer y m e in subst (Stands false known (dictionary_of s)) f.is (f.exactly.stands f.accepted);
    begins = λ number version n buffer y m e. again number version n buffer m (front number version n buffer y m e);
    fits = λ number version n buffer y m e. let f = front number version n buffer y m e in (
      (ap (λ x. x.template) (sym f.is) ∙ f.number_is, ap (λ x. x.version) (sym f.is) ∙ f.version_is),
      ap length (again number version n buffer m f) ∙ length-take-le n buffer f.long,
    );
    found = found;
  }
