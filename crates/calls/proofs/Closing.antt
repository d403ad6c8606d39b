-- Judging as closed what is right as not closed answers the first required field that is absent, in wire order.
use Rattle.std.proofs.Common.{◌≡◌, ℕ, ◌+◌, ◌-◌, ◌≤◌, Bool, true, false, ◌&&◌, eqb, ltb, leb, List, [], ◌∷◌, ◌++◌, length, take, drop, Some, Ok, Err, Option, sym, refl, ap, ◌∙◌, ap₂, append_assoc, arith, length-append, length-drop}
use lib.ListN.{length-replicate}
use Rattle.std.proofs.lemmas.List.{take_at, length-take-le}
use Rattle.std.proofs.lemmas.Bool.{le-leb, eq-eqb, le-ltb}
use Rattle.wire.specs.declared.refusal.Reason.TheVariants as reason
use Rattle.wire.specs.Streams.{frame_length}
use Rattle.types.specs.Meanings.{Meaning}
use Rattle.types.specs.Kinds.{Kind, Known}
use Rattle.types.specs.Answers.{read_of}
use Rattle.schema.specs.Verdicts.{Verdict, fine, rule, ◌then◌}
use Rattle.schema.specs.Reading.{dictionary_of}
use Rattle.schema.specs.Seen.{template_at}
use Rattle.message.specs.Blocks.{Slot, BlockView, slot_end, written, zeros, bytes_from, block_bytes, present, field_verdict, fields_verdict, block_verdict, Filled}
use Rattle.message.specs.Frames.{GroupView, View, Contents, entries_bytes, group_bytes, groups_bytes, contents_bytes, stated, entry_length, group_length, groups_length, length_fits, entries_verdict, groups_verdict, parts_verdict, contents_verdict, Entries, Groups, Holds}
use Rattle.message.specs.Messages.{Message, view_of, template_geometry, is_there, contents_by, stated_root, stated_template, stated_schema, stated_version, verdict_when}
use Rattle.message.proofs.Verdicts.{both, told, passing}
use Rattle.message.proofs.Blocks.{Fits, Sized, zeros_pass, zeros_length, cut_take, cut_drop, block_length}
use Rattle.message.proofs.Passing.{two_bytes, parts_pass, size_small, group_long, group_rest, root_rest, groups_rest}
use Rattle.message.proofs.Making.{AllSized}
use Rattle.message.proofs.Views.{SoundView, view_reads_itself}
use Rattle.calls.specs.Changes.{fields_there, entries_there, groups_there, needed, closing_verdict}
use Rattle.calls.proofs.AnyFront.{AnyFront}

-- ---- verdicts one after the other

then_fine : (v : Verdict) → (v then fine) ≡ v
then_fine (Ok x) = refl
then_fine (Err e) = refl

then_regroups : (u v w : Verdict) → (u then (v then w)) ≡ ((u then v) then w)
then_regroups (Ok x) v w = refl
then_regroups (Err e) v w = refl

-- ---- blocks

-- of a field whose bytes are read only that is asked which is required
field_asks : (k : Option Kind) (required : Bool) (place tag : ℕ) (bs : List ℕ) (m : Meaning) → read_of k bs ≡ Ok m → field_verdict k required place tag bs ≡ rule (present required m) reason.RequiredAbsent place tag
field_asks k required place tag bs m e = rw e

fields_asked : (base at : ℕ) (fs : List Slot) (size : ℕ) (ms : List Meaning) (more : List ℕ) → Fits at fs size → Filled fs ms → fields_verdict true base at fs size (bytes_from at fs size ms ++ more) ≡ fields_there base fs ms
fields_asked base at [] size ms more h k = rw (take_at (zeros (size - at)) more (size - at) (length-replicate _ _)) (zeros_pass (base + at) (size - at))
fields_asked base at (f ∷ fs) size [] more h k = absurd k
fields_asked base at (f ∷ fs) size (m ∷ ms) more h k =
    let g = zeros_length (f.offset - at) in
    let w = h.1.long m k.0 in
    simp (cut_take, cut_drop)
    (ap₂ ◌then◌ (zeros_pass (base + at) (f.offset - at))
    (ap₂ ◌then◌ (field_asks f.kind f.required (base + f.offset) f.tag (written f.kind m) m (h.1.read m k.0))
    (fields_asked base (slot_end f) fs size ms more h.2 k.1)))

-- ---- groups

entries_asked : (b : BlockView) (tag p : ℕ) (es : List (List Meaning)) (more : List ℕ) → Sized b → Entries false b es → entries_verdict true b b.size tag (length es) p (entries_bytes b es ++ more) ≡ entries_there p b es
entries_asked b tag p [] more s e = refl
entries_asked b tag p (ms ∷ es) more s e =
    let l = block_length b ms s e.0.0 in
    let d = cut_drop b.size (block_bytes b ms) (entries_bytes b es) more l in
    let a = append_assoc (block_bytes b ms) (entries_bytes b es) more in
    let bs = (block_bytes b ms ++ entries_bytes b es) ++ more in
    let big : b.size ≤ length bs = simp length-append (omega arith) in
    let here : block_verdict true p b bs ≡ fields_there p b.slots ms = ap (block_verdict true p b) a ∙ fields_asked p 0 b.slots b.size ms (entries_bytes b es ++ more) s.0 e.0.0 in
    let next : entries_verdict true b b.size tag (length es) (p + b.size) (drop b.size bs) ≡ entries_there (p + b.size) b es = ap (entries_verdict true b b.size tag (length es) (p + b.size)) d ∙ entries_asked b tag (p + b.size) es more s e.1 in
    passing _ _ _ (le-leb _ _ big) ∙ ap₂ ◌then◌ here next

groups_asked : (gs : List GroupView) (p : ℕ) (ess : List (List (List Meaning))) (more : List ℕ) → AllSized gs → Groups false gs ess → groups_verdict true false gs p (groups_bytes gs ess ++ more) ≡ groups_there p gs ess
groups_asked [] p ess more s e = refl
groups_asked (g ∷ gs) p [] more s e = absurd e
groups_asked (g ∷ gs) p (es ∷ ess) more s e =
    let size = g.block.size in
    let w = s.0 in
    let two = two_bytes size (size_small false false g.block w) in
    let bs = (group_bytes g es ++ groups_bytes gs ess) ++ more in
    let first : leb 3 (length bs) ≡ true = le-leb _ _ (omega arith) in
    let second : length_fits false (entry_length bs) size ≡ true = eq-eqb _ _ two in
    let third : leb (length es) 254 ≡ true = le-leb _ _ e.0 in
    let all : entries_verdict true g.block (entry_length bs) g.tag (length es) (p + 3) (drop 3 bs) ≡ entries_there (p + 3) g.block es =
    ap₂ (λ n x. entries_verdict true g.block n g.tag (length es) (p + 3) x) two (append_assoc (entries_bytes g.block es) (groups_bytes gs ess) more)
    ∙ entries_asked g.block g.tag (p + 3) es (groups_bytes gs ess ++ more) w e.1 in
    let next : groups_verdict true false gs (p + group_length bs) (drop (group_length bs) bs) ≡ groups_there (p + length (group_bytes g es)) gs ess =
    ap₂ (λ n x. groups_verdict true false gs (p + n) x) (group_long false false g es w e.1) (group_rest false false g es (groups_bytes gs ess) more w e.1)
    ∙ groups_asked gs (p + length (group_bytes g es)) ess more s.1 e.2 in
    ap₂ ◌then◌ (passing _ _ _ first ∙ passing _ _ _ second ∙ passing _ _ _ third ∙ all) next

-- ---- contents

-- the bytes of contents that a message may hold, judged as closed
pub contents_asked : (v : View) (c : Contents) → SoundView v → Holds false v c → (p : ℕ) → contents_verdict true false v v.root.size p (contents_bytes v c) ≡ (fields_there p v.root.slots c.root then groups_there (p + v.root.size) v.groups c.groups)
contents_asked v c sound h p =
    let size = v.root.size in
    let reads = view_reads_itself false v sound in
    let l = block_length v.root c.root sound.root h.root.0 in
    let big : size ≤ length (contents_bytes v c) = simp length-append (omega arith) in
    let bs = drop size (contents_bytes v c) in
    let behind = root_rest false false v v c reads h in
    let last = groups_rest false false v v c reads h in
    let fields : block_verdict true p v.root (contents_bytes v c) ≡ fields_there p v.root.slots c.root = fields_asked p 0 v.root.slots size c.root _ sound.root.0 h.root.0 in
    let groups : groups_verdict true false v.groups (p + size) bs ≡ groups_there (p + size) v.groups c.groups = ap (groups_verdict true false v.groups (p + size)) behind ∙ groups_asked v.groups (p + size) c.groups _ sound.groups h.groups in
    let parts : parts_verdict false v.parts (p + size + groups_length v.groups bs) (drop (groups_length v.groups bs) bs) ≡ fine = rw (behind, last) (parts_pass false v.parts v.parts _ c.parts reads.parts h.parts) in
    passing _ _ _ (eq-eqb size size refl)
    ∙ passing _ _ _ (le-leb _ _ big)
    ∙ ap₂ ◌then◌ fields (ap₂ ◌then◌ groups parts ∙ then_fine _)

-- ---- the front of a buffer

-- what is right as not closed is judged as closed by what follows the header
header_passes : (known : Known) (s bs : List ℕ) → verdict_when false known s bs ≡ fine →
    verdict_when true known s bs ≡ contents_by known true (ltb (dictionary_of s).version (stated_version bs)) (template_at (dictionary_of s) (stated_template bs) (stated_version bs)) (stated_root bs) (drop 12 bs)
header_passes known s bs e =
    let d = dictionary_of s in
    let o = template_at d (stated_template bs) (stated_version bs) in
    let a = told (frame_length (length bs) && eqb (stated bs 0) (length bs)) _ _ e in
    let b = told (eqb (stated bs 2) 0xEB50) _ _ a.1 in
    let i = told (eqb (stated_schema bs) d.schema) _ _ b.1 in
    let f = told (is_there o) _ _ i.1 in
    let g = both (template_geometry known s (stated_template bs) (stated_version bs)) _ f.1 in
    passing _ _ _ a.0 ∙ passing _ _ _ b.0 ∙ passing _ _ _ i.0 ∙ passing _ _ _ f.0
    ∙ ap (λ v. v then contents_by known true (ltb d.version (stated_version bs)) o (stated_root bs) (drop 12 bs)) g.0

module _ (known : Known) (s : List ℕ) (number version n : ℕ) (buffer : List ℕ) (m : Message) (f : AnyFront known s number version n buffer m) where
  -- the front of a buffer, judged as closed
  pub judged_closed : verdict_when true known s (take n buffer) ≡ (fields_there 12 (view_of known f.template).root.slots m.contents.root then groups_there (12 + (view_of known f.template).root.size) (view_of known f.template).groups m.contents.groups)
  judged_closed =
      let bs = take n buffer in
      let d = dictionary_of s in
      let at : template_at d (stated_template bs) (stated_version bs) ≡ Some f.template = ap₂ (template_at d) f.stated_number f.stated_at ∙ f.found in
      let same_age : ltb d.version (stated_version bs) ≡ false = ap (ltb d.version) f.stated_at ∙ le-ltb _ _ f.below in
      header_passes known s bs f.accepted
      ∙ (λ i. contents_by known true (same_age i) (at i) (f.stated_size i) (f.body i))
      ∙ contents_asked (view_of known f.template) m.contents f.sound f.right 12

  -- as many bytes as the frame of its contents needs
  pub needs_all : needed (view_of known f.template) m.contents ≡ n
  needs_all =
      let long = length-take-le n buffer f.long in
      let least = f.least in
      ap (λ x. 12 + length x) (sym f.body) ∙ rw length-drop (omega arith)

  -- closing a form is judging its frame as closed
  pub closing_is_judging : closing_verdict (view_of known f.template) m.contents ≡ (verdict_when true known s (take n buffer) then rule (leb n 16384) reason.TooLong 0 0)
  closing_is_judging =
      let v = view_of known f.template in
      let c = m.contents in
      then_regroups (fields_there 12 v.root.slots c.root) (groups_there (12 + v.root.size) v.groups c.groups) _
      ∙ ap₂ (λ x k. x then rule (leb k 16384) reason.TooLong 0 0) (sym judged_closed) needs_all

  -- and nothing more, since the frame is not too long
  pub closing_is_the_verdict : closing_verdict (view_of known f.template) m.contents ≡ verdict_when true known s (take n buffer)
  closing_is_the_verdict =
      closing_is_judging
      ∙ ap (λ b. verdict_when true known s (take n buffer) then rule b reason.TooLong 0 0) (le-leb n 16384 f.most)
      ∙ then_fine (verdict_when true known s (take n buffer))
