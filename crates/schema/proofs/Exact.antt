-- Bytes pass the check exactly if they are the writing-out of a well-formed dictionary, and that is the dictionary which is read from them.
use Rattle.std.proofs.Common.{◌≡◌, ℕ, ◌+◌, ◌<◌, ◌≤◌, ◌&&◌, eqb, leb, List, ◌∷◌, ◌++◌, map, length, get_or, drop, Some, Option, sym, refl, ap, ◌∙◌, subst, ap₂, arith, length-drop}
use Rattle.std.specs.List.{flat_map}
use Rattle.std.proofs.ByRecursion.{All-drop}
use Rattle.std.proofs.lemmas.Bool.Decides.{Decides-and, Decides-eqb}
use Rattle.wire.specs.Bytes.{Bytes}
use Rattle.wire.specs.Numbers.{be_bytes}
use Rattle.wire.proofs.Values.{be_value_of_bytes}
use Rattle.wire.specs.declared.refusal.Reason.TheVariants as reason
use Rattle.wire.specs.Refusals.{refusal}
use Rattle.types.specs.Kinds.{Known}
use Rattle.schema.specs.Verdicts.{Verdict, fine, rule, ◌then◌}
use Rattle.schema.specs.Structure.{Dictionary}
use Rattle.schema.specs.Lines.{number_2, there}
use Rattle.schema.specs.Sections.{Section, sections}
use Rattle.schema.specs.Shape.{sections_shape}
use Rattle.schema.specs.Geometry.{sections_geometry}
use Rattle.schema.specs.Reading.{template_of, schema_of, version_of, sections_of, dictionary_of, dictionary_length, verdict}
use Rattle.schema.specs.Writing.{templates_bytes, dictionary_bytes}
use Rattle.schema.specs.WellFormed.{WellFormed}
use Rattle.schema.specs.Laws.{PassesExactlyAsWrittenOut}
use Rattle.schema.proofs.Verdicts.{Iff, rule_iff, then_iff, decides_leb}
use Rattle.schema.proofs.InBytes.{next_byte, next_number, number_below}
use Rattle.schema.proofs.CutForms.{whole_is, there_map}
use Rattle.schema.proofs.SectionForms.{section_bytes, sections_are, sections_back}
use Rattle.schema.proofs.Templates.{section_for, templates_sections, sections_whole, MadeOf, made_of, Written, written}

-- what each part of the verdict says
pub record Parts (known : Known) (s : List ℕ) : Type 0 where
  pub least : 7 ≤ length s
  pub most : length s ≤ 32000
  pub stated : number_2 s 1 ≡ length s
  pub layout : get_or s 0 0 ≡ 1
  pub shape : sections_shape 0 7 (sections (drop 7 s)) ≡ fine
  pub geometry : sections_geometry known (version_of s) 7 (sections_of s) ≡ fine

parts_iff : (known : Known) (s : List ℕ) → Iff (verdict known s ≡ fine) (Parts known s)
parts_iff known s =
    let long = dictionary_length (length s) && eqb (number_2 s 1) (length s) in
    let first = eqb (get_or s 0 0) 1 in
    let shape = sections_shape 0 7 (sections (drop 7 s)) in
    let geometry = sections_geometry known (version_of s) 7 (sections_of s) in
    let same : (v : Verdict) → Iff (v ≡ fine) (v ≡ fine) = λ v. ((λ e. e), (λ e. e)) in
    let d = Decides-and (dictionary_length (length s)) (eqb (number_2 s 1) (length s))
    (Decides-and (leb 7 (length s)) (leb (length s) 32000) (decides_leb 7 (length s)) (decides_leb (length s) 32000))
    (Decides-eqb (number_2 s 1) (length s)) in
    let all = then_iff (rule long reason.DictionarySize 0 0) (rule first reason.Layout 0 0 then (shape then geometry)) (rule_iff long (refusal reason.DictionarySize 0 0) d)
    (then_iff (rule first reason.Layout 0 0) (shape then geometry) (rule_iff first (refusal reason.Layout 0 0) (Decides-eqb (get_or s 0 0) 1))
    (then_iff shape geometry (same shape) (same geometry))) in (
      (λ e.
          let k = all.0 e in
          record { least = k.0.0.0; most = k.0.0.1; stated = k.0.1; layout = k.1.0; shape = k.1.1.0; geometry = k.1.1.1 }),
      (λ k. all.1 (((k.least, k.most), k.stated), (k.layout, (k.shape, k.geometry)))),
    )

module _ (known : Known) (s : List ℕ) (b : Bytes s) where
  -- the sections of bytes that pass
  sections_made : Parts known s → (flat_map section_bytes (sections_of s) ≡ drop 7 s) × MadeOf known (version_of s) 0 (sections_of s)
  sections_made h =
      let w = sections_whole 0 7 (sections (drop 7 s)) h.shape in
      let m = sections_back (drop 7 s) (All-drop (λ y. y < 256) 7 s b) w in
      let e = subst (λ (os : List (Option Section)). sections_shape 0 7 os ≡ fine) (whole_is (sections (drop 7 s)) w) h.shape in
      (m.0, made_of known (version_of s) 0 7 7 (sections_of s) m.1 e h.geometry)

  out : Parts known s → dictionary_bytes (dictionary_of s) ≡ s
  out h =
      let m = sections_made h in
      let ts = map template_of (sections_of s) in
      let body : templates_bytes ts ≡ drop 7 s = templates_sections ts ∙ ap (flat_map section_bytes) m.1.same ∙ m.0 in
      let l = ap length body ∙ length-drop 7 s in
      let low = h.least in
      let st = h.stated in
      let n : 7 + length (templates_bytes ts) ≡ number_2 s 1 = omega arith in
      ap₂ (λ (k : ℕ) (u : List ℕ). get_or s 0 0 ∷ (be_bytes 2 k ++ (be_bytes 2 (schema_of s) ++ (be_bytes 2 (version_of s) ++ u)))) n body
      ∙ next_byte 0 s _ (omega arith)
      (next_number 1 2 s _ b (omega arith)
      (next_number 3 2 s _ b (omega arith)
      (next_number 5 2 s _ b (omega arith) refl)))

  well : Parts known s → WellFormed known (dictionary_of s)
  well h =
      let m = sections_made h in
      let low = h.least in
      record {
        layout = h.layout;
        schema_fits = number_below 3 2 s b (omega arith);
        version_fits = number_below 5 2 s b (omega arith);
        numbers = m.1.numbers;
        templates = m.1.good;
        short = subst (λ (u : List ℕ). length u ≤ 32000) (sym (out h)) h.most;
      }

-- what is written out passes, and is read back
module _ (known : Known) (d : Dictionary) (w : WellFormed known d) where
  long : length (dictionary_bytes d) ≡ 7 + length (templates_bytes d.templates)
  long = omega arith

  all : Written known d.version 0 d.templates
  all =
      let s = w.short in
      let l = long in
      written known d.version 0 d.templates w.version_fits (omega arith) w.numbers w.templates

  cut_again : sections (drop 7 (dictionary_bytes d)) ≡ map Some (map section_for d.templates)
  cut_again = ap sections (templates_sections d.templates) ∙ sections_are (map section_for d.templates) all.fits

  there_again : sections_of (dictionary_bytes d) ≡ map section_for d.templates
  there_again = ap there cut_again ∙ there_map (map section_for d.templates)

  version_again : version_of (dictionary_bytes d) ≡ d.version
  version_again = be_value_of_bytes 2 d.version w.version_fits

  parts : Parts known (dictionary_bytes d)
  parts =
      let s = w.short in
      let l = long in
      record {
        least = omega arith;
        most = s;
        stated = be_value_of_bytes 2 (7 + length (templates_bytes d.templates)) (omega arith) ∙ sym long;
        layout = w.layout;
        shape = ap (sections_shape 0 7) cut_again ∙ all.shape 7;
        geometry = ap₂ (λ v ts. sections_geometry known v 7 ts) version_again there_again ∙ all.geometry 7;
      }

  read_again : dictionary_of (dictionary_bytes d) ≡ d
  read_again = λ i. record {
    layout = d.layout;
    schema = be_value_of_bytes 2 d.schema w.schema_fits i;
    version = version_again i;
    templates = (ap (map template_of) there_again ∙ all.same) i;
  }

pub passes_exactly : (known : Known) (s : List ℕ) → Bytes s → PassesExactlyAsWrittenOut known s
passes_exactly known s b = record {
  well_formed = λ e. well known s b ((parts_iff known s).0 e);
  written_out = λ e. out known s b ((parts_iff known s).0 e);
  passes = λ d w e. subst (λ (u : List ℕ). verdict known u ≡ fine) e ((parts_iff known (dictionary_bytes d)).1 (parts known d w));
  read_back = λ d w e. ap dictionary_of (sym e) ∙ read_again known d w;
}
