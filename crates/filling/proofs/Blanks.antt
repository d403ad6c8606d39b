-- Blanks that are put where there is room for them.
use Rattle.std.proofs.Common.{◌≡◌, ℕ, ◌+◌, true, false, cond, leb, List, length, Some, Ok, sym, ap, ◌∙◌, subst}
use Rattle.moves.specs.Moves.{patched}
use Rattle.types.specs.Kinds.{Known}
use Rattle.schema.specs.Verdicts.{fine}
use Rattle.schema.specs.Geometry.{section_geometry}
use Rattle.schema.specs.Reading.{template_of, schema_of, version_of}
use Rattle.schema.specs.Seen.{block_length, seen_template}
use Rattle.schema.specs.Finding.{PlacedSection}
use Rattle.message.specs.Frames.{contents_bytes}
use Rattle.message.specs.Messages.{view_of, header}
use Rattle.calls.specs.Changes.{◌before◌, blank_contents}
use Rattle.places.specs.Places.{blank_needed}
use Rattle.steps.specs.Steps.{patched_in, has_room, Left, open_by, blank_frame, Leaves}

pub put_in_room : (p size : ℕ) (x old new : List ℕ) → length x ≡ size → leb (p + size) (length old) ≡ true → new ≡ patched p x old → new ≡ patched_in p x old
put_in_room p size x old new long within is =
    is ∙ sym (ap (λ b. cond b (patched p x old) old) (ap (λ n. leb (p + n) (length old)) long ∙ within))

pub put_nowhere : (p size : ℕ) (x old : List ℕ) → length x ≡ size → leb (p + size) (length old) ≡ false → old ≡ patched_in p x old
put_nowhere p size x old long beyond =
    sym (ap (λ b. cond b (patched p x old) old) (ap (λ n. leb (p + n) (length old)) long ∙ beyond))

-- ---- a blank frame

module _ (known : Known) (s buffer : List ℕ) (number version : ℕ) (t : PlacedSection) where
  -- what the code has written is what opening leaves
  pub blank_left : (whole schema : ℕ) (new : List ℕ) →
      section_geometry known (version_of s) t.place t.section ≡ fine → whole ≡ blank_needed version (template_of t.section) → has_room whole (length buffer) ≡ fine → schema ≡ schema_of s →
      new ≡ patched 0 (header whole (block_length version (template_of t.section).root) number schema version) (patched 12 (contents_bytes (view_of known (seen_template version (template_of t.section))) (blank_contents (view_of known (seen_template version (template_of t.section))))) buffer) →
      Leaves (open_by known s buffer number version (Some t)) (Ok whole) buffer new
  blank_left whole schema new geometry long room same is =
      let n = blank_needed version (template_of t.section) in
      let left : Left = record { length = n; bytes = blank_frame known s buffer number version (template_of t.section) } in
      let roomy : has_room n (length buffer) ≡ fine = ap (λ w. has_room w (length buffer)) (sym long) ∙ room in
      let all : (section_geometry known (version_of s) t.place t.section before has_room n (length buffer) before Ok left) ≡ Ok left =
      ap (λ v. v before has_room n (length buffer) before Ok left) geometry ∙ ap (λ v. v before Ok left) roomy in
      let body = patched 12 (contents_bytes (view_of known (seen_template version (template_of t.section))) (blank_contents (view_of known (seen_template version (template_of t.section))))) buffer in
      subst (λ x. Leaves x (Ok whole) buffer new) (sym all) (ap Ok long, is ∙ (λ i. patched 0 (header (long i) (block_length version (template_of t.section).root) number (same i) version) body))
