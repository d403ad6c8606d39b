-- The verdict on a frame, as it is put together.
use Rattle.std.proofs.Common.{◌≡◌, ℕ, ◌+◌, Bool, true, false, cond, ◌&&◌, eqb, ltb, leb, List, length, drop, Some, None, Ok, Err, Option, sym, refl, ap, ◌∙◌, ap₂, arith}
use Rattle.wire.specs.declared.refusal.Reason.TheVariants as reason
use Rattle.wire.specs.declared.refusal.Refusal.{Refusal}
use Rattle.wire.specs.Refusals.{bind}
use Rattle.wire.specs.Streams.{frame_length}
use Rattle.types.specs.Kinds.{Known}
use Rattle.schema.specs.Verdicts.{Verdict, fine, rule, ◌then◌}
use Rattle.schema.specs.Structure.{Template}
use Rattle.schema.specs.Lines.{lines, there}
use Rattle.schema.specs.Reading.{template_of, fields_of, schema_of, version_of, sections_of, dictionary_of}
use Rattle.schema.specs.Seen.{seen_template, template_at, length_at}
use Rattle.schema.specs.Geometry.{section_geometry}
use Rattle.schema.specs.Sections.{Section}
use Rattle.schema.specs.Finding.{PlacedSection, section_at, seen_of}
use Rattle.schema.proofs.Finding.{section_is_template}
use Rattle.message.specs.Blocks.{fields_verdict}
use Rattle.message.specs.Frames.{stated, length_fits, groups_verdict, groups_length, parts_verdict, contents_verdict}
use Rattle.message.specs.Messages.{view_of, is_there, geometry_of, contents_by, verdict_when, stated_root, stated_template, stated_schema, stated_version}
use Rattle.judging.specs.Steps.{slots_from, groups_seen, parts_seen, contents_step, found_step, template_step, header_verdict}

-- two rules that hold and a verdict that passes leave what follows
pub opened : (a b : Bool) (e f : Refusal) (v w : Verdict) (x : Unit {0}) → a ≡ true → b ≡ true → v ≡ Ok x → (cond a fine (Err e) then (cond b fine (Err f) then (v then w))) ≡ w
opened true true e f (Ok y) w x p q r = refl
opened true true e f (Err g) w x p q r = let z : ◌≡◌ {A = ℕ} 0 1 = cc in absurd (omega arith)
opened true false e f v w x p q r = let z : ◌≡◌ {A = ℕ} 0 1 = cc in absurd (omega arith)
opened false b e f v w x p q r = let z : ◌≡◌ {A = ℕ} 0 1 = cc in absurd (omega arith)

behind : (v : Verdict) (n : ℕ) (w : ℕ → Verdict) → (v then w n) ≡ bind (bind v (λ _. Ok n)) w
behind (Ok x) n w = refl
behind (Err e) n w = refl

module _ (known : Known) (closed newer : Bool) (u given : ℕ) (bs : List ℕ) where
  -- contents by the template as seen at a version are contents by the template's lines
  contents_same : (t : PlacedSection) → contents_verdict closed newer (view_of known (seen_template u (template_of t.section))) given 12 bs ≡ contents_step known closed newer u t.section.size t.section.body given bs
  contents_same t =
      let body = t.section.body in
      let own = length_at u t.section.size (fields_of (there (lines body))) in
      ap (λ w. rule (length_fits newer given own) reason.BlockLength 4 0 then (rule (leb given (length bs)) reason.PastEnd 12 0 then (fields_verdict closed 12 0 (slots_from known u body) own bs then w)))
      (behind (groups_verdict closed newer (groups_seen known u body) (12 + given) (drop given bs)) (groups_length (groups_seen known u body) (drop given bs)) (λ n. parts_verdict newer (parts_seen u body) (12 + given + n) (drop n (drop given bs))))

  by_section : (last : ℕ) (o : Option PlacedSection) (t : Option Template) → seen_of u o ≡ t → (rule (is_there t) reason.UnknownTemplate 6 0 then (geometry_of known last o then contents_by known closed newer t given bs)) ≡ found_step known closed newer last u given bs o
  by_section last None t e =
      ap (λ x. rule (is_there x) reason.UnknownTemplate 6 0 then (fine then contents_by known closed newer x given bs)) (sym e)
  by_section last (Some p) t e =
      ap (λ x. rule (is_there x) reason.UnknownTemplate 6 0 then (section_geometry known last p.place p.section then contents_by known closed newer x given bs)) (sym e)
      ∙ ap (λ w. section_geometry known last p.place p.section then w) (contents_same p)

three : (a b c w : Verdict) → ((a then (b then c)) then w) ≡ (a then (b then (c then w)))
three (Ok x) (Ok y) c w = refl
three (Ok x) (Err e) c w = refl
three (Err e) b c w = refl

-- the verdict is that on the header, and then that on the template that it names
pub verdict_apart : (closed : Bool) (known : Known) (s bs : List ℕ) → (header_verdict s bs then template_step known closed s bs) ≡ verdict_when closed known s bs
verdict_apart closed known s bs =
    let a = rule (frame_length (length bs) && eqb (stated bs 0) (length bs)) reason.FrameSize 0 0 in
    let b = rule (eqb (stated bs 2) 0xEB50) reason.Encoding 2 0 in
    let c = rule (eqb (stated_schema bs) (schema_of s)) reason.SchemaId 8 0 in
    three a b c (template_step known closed s bs)
    ∙ ap (λ w. a then (b then (c then w))) (sym (by_section known closed (ltb (version_of s) (stated_version bs)) (stated_version bs) (stated_root bs) (drop 12 bs) (version_of s) (section_at (stated_template bs) (stated_version bs) 7 (sections_of s)) (template_at (dictionary_of s) (stated_template bs) (stated_version bs)) (section_is_template s (stated_template bs) (stated_version bs) 7)))

-- the numbers and bytes that the code read, for those of the definition
pub found_same : (known : Known) (closed : Bool) (ts : List Section) (r : Verdict) (last last' version version' given given' number number' : ℕ) (rest rest' : List ℕ) (o : Option PlacedSection) → last ≡ last' → version ≡ version' → given ≡ given' → number ≡ number' → rest ≡ rest' → o ≡ section_at number version 7 ts → r ≡ found_step known closed (ltb last version) last version given rest o → r ≡ found_step known closed (ltb last' version') last' version' given' rest' (section_at number' version' 7 ts)
found_same known closed ts r last last' version version' given given' number number' rest rest' o a b c d e f is =
    is
    ∙ ap (found_step known closed (ltb last version) last version given rest) f
    ∙ ap₂ (λ l n. found_step known closed (ltb l version) l version given rest (section_at n version 7 ts)) a d
    ∙ ap₂ (λ v g. found_step known closed (ltb last' v) last' v g rest (section_at number' v 7 ts)) b c
    ∙ ap (λ t. found_step known closed (ltb last' version') last' version' given' t (section_at number' version' 7 ts)) e
