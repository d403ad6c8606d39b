-- A template as seen at an earlier version reads what the template writes: a block seen earlier is the beginning of the block.
use Rattle.std.proofs.Common.{◌≡◌, ℕ, ◌+◌, ◌-◌, ◌≤◌, true, List, [], ◌∷◌, ◌++◌, map, length, take, drop, sym, refl, ap, ◌∙◌, ⊎_elim, arith}
use native.Mathlib.Nat.{sub-zero}
use lib.Seq.{take-append-add}
use Rattle.std.proofs.lemmas.List.{take_all, take_at, take-append-drop}
use Rattle.std.proofs.lemmas.Bool.{le-leb}
use Rattle.std.proofs.lemmas.Bool.Decides.{leb_tells}
use Rattle.types.specs.Meanings.{Meaning}
use Rattle.types.specs.Kinds.{Known}
use Rattle.schema.specs.Structure.{Field, Group, Data, Template}
use Rattle.schema.specs.Seen.{seen_fields, seen_parts, length_at, seen_block, seen_group, seen_template}
use Rattle.message.specs.Blocks.{Slot, BlockView, slot_end, written, zeros, bytes_from, block_bytes, Filled, Complete}
use Rattle.message.specs.Messages.{slot_of, block_view, group_view, data_view, view_of}
use Rattle.message.proofs.Blocks.{Fits, fits_within, zeros_length, Sized}
use Rattle.message.proofs.Passing.{Ahead, Reads, AllRead, ViewReads}
use Rattle.message.proofs.Making.{AllSized}
use Rattle.message.proofs.Views.{SoundView, AllRoom}

-- fields and a length that begin other fields and their length: all of them, those in front of one that is left out, or one and then others
pub data Begins : List Slot → ℕ → List Slot → ℕ → Type 0 where
  ends : {s : ℕ} → Begins [] s [] s
  stops : {f : Slot} {fs : List Slot} {s : ℕ} → Begins [] f.offset (f ∷ fs) s
  goes : {f : Slot} {fs gs : List Slot} {r s : ℕ} → Begins fs r gs s → Begins (f ∷ fs) r (f ∷ gs) s

begins_fits : (at : ℕ) {fs gs : List Slot} {r s : ℕ} → Begins fs r gs s → Fits at gs s → Fits at fs r × (r ≤ s)
begins_fits at ends h = (h, omega arith)
begins_fits at (stops {f} {fs} {s}) h = let l = fits_within (slot_end f) fs s h.2 in (h.0, omega arith)
begins_fits at (goes {f} b) h = let ih = begins_fits (slot_end f) b h.2 in ((h.0, h.1, ih.0), ih.1)

begins_filled : {fs gs : List Slot} {r s : ℕ} → Begins fs r gs s → (ms : List Meaning) → Filled gs ms → Filled fs (take (length fs) ms)
begins_filled ends ms h = tt
begins_filled stops ms h = tt
begins_filled (goes b) [] h = h
begins_filled (goes b) (m ∷ ms) h = (h.0, begins_filled b ms h.1)

begins_complete : {fs gs : List Slot} {r s : ℕ} → Begins fs r gs s → (ms : List Meaning) → Complete gs ms → Complete fs (take (length fs) ms)
begins_complete ends ms h = tt
begins_complete stops ms h = tt
begins_complete (goes b) [] h = tt
begins_complete (goes b) (m ∷ ms) h = (h.0, begins_complete b ms h.1)

begins_bytes : (at : ℕ) {fs gs : List Slot} {r s : ℕ} → Begins fs r gs s → (ms : List Meaning) → Fits at gs s → Filled gs ms → take (r - at) (bytes_from at gs s ms) ≡ bytes_from at fs r (take (length fs) ms)
begins_bytes at (ends {s}) ms h k = take_all _ _ (rw (zeros_length (s - at)) (omega arith))
begins_bytes at (stops {f}) [] h k = absurd k
begins_bytes at (stops {f}) (m ∷ ms) h k = take_at (zeros (f.offset - at)) _ _ (zeros_length _)
begins_bytes at (goes b) [] h k = absurd k
begins_bytes at (goes {f} {fs} {gs} {r} {s} b) (m ∷ ms) h k =
    let w = h.1.long m k.0 in
    let z = zeros_length (f.offset - at) in
    let lo = h.0 in
    let le = fits_within (slot_end f) fs r (begins_fits (slot_end f) b h.2).0 in
    let n : r - at ≡ length (zeros (f.offset - at)) + (length (written f.kind m) + (r - slot_end f)) = omega arith in
    rw n (take-append-add (zeros (f.offset - at)) _ _ ∙ ap (λ x. zeros (f.offset - at) ++ x) (take-append-add (written f.kind m) _ _ ∙ ap (λ x. written f.kind m ++ x) (begins_bytes (slot_end f) b ms h.2 k.1)))

reads_more : (b c : BlockView) → Begins b.slots b.size c.slots c.size → Sized c → Reads true b c
reads_more b c x s =
    let y = begins_fits 0 x s.0 in
    let shorter = y.1 in
    let l = s.1 in
    record {
      own = (y.0, omega arith);
      wide = s;
      size = le-leb b.size c.size y.1;
      tail = λ ms. drop b.size (block_bytes c ms);
      begins = λ ms k. sym (take-append-drop b.size (block_bytes c ms)) ∙ ap (λ y. y ++ drop b.size (block_bytes c ms)) (rw (sub-zero b.size) at (begins_bytes 0 x ms s.0 k));
      entry = λ closed ms k. (begins_filled x ms k.0, λ t. begins_complete x ms (k.1 t));
    }

module _ (known : Known) (v : ℕ) where
  fields_begin : (size : ℕ) (fs : List Field) → Begins (map (slot_of known) (seen_fields v fs)) (length_at v size fs) (map (slot_of known) fs) size
  fields_begin size [] = ends
  fields_begin size (f ∷ fs) = ⊎_elim (λ a. rw a.0 (goes (fields_begin size fs))) (λ a. rw a.0 stops) (leb_tells f.since v)

  groups_read_more : (gs : List Group) → AllSized (map (group_view known) gs) → AllRead true (map (group_view known) (map (seen_group v) gs)) (map (group_view known) gs)
  groups_read_more [] s = tt
  groups_read_more (g ∷ gs) s = (reads_more (block_view known (seen_block v g.block)) (block_view known g.block) (fields_begin g.block.size g.block.fields) s.0, groups_read_more gs s.1)

  parts_ahead : (ds : List Data) → AllRoom (map data_view ds) → Ahead true (map data_view (seen_parts v ds)) (map data_view ds)
  parts_ahead [] r = tt
  parts_ahead (d ∷ ds) r = ⊎_elim (λ a. rw a.0 ((refl, refl, r.0), parts_ahead ds r.1)) (λ a. rw a.0 tt) (leb_tells d.since v)

  -- what a template writes can be read by what was seen of it at an earlier version
  pub view_reads_more : (t : Template) → SoundView (view_of known t) → ViewReads true (view_of known (seen_template v t)) (view_of known t)
  view_reads_more t s = record {
    root = reads_more (block_view known (seen_block v t.root)) (block_view known t.root) (fields_begin t.root.size t.root.fields) s.root;
    groups = groups_read_more t.groups s.groups;
    parts = parts_ahead t.parts s.parts;
  }
