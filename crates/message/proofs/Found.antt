-- The section of a dictionary's bytes that a frame's template is found in.
use Rattle.std.proofs.Common.{◌≡◌, ℕ, ◌+◌, ◌&&◌, eqb, List, [], ◌∷◌, map, length, get_or, drop, Some, None, Option, refl, ⊎_elim}
use Rattle.std.proofs.lemmas.Bool.Decides.{leb_tells, eqb_tells}
use Rattle.types.specs.Kinds.{Known}
use Rattle.schema.specs.Verdicts.{fine}
use Rattle.schema.specs.Structure.{Template}
use Rattle.schema.specs.Lines.{number_2}
use Rattle.schema.specs.Sections.{Section, sections, section_size}
use Rattle.schema.specs.Shape.{sections_shape}
use Rattle.schema.specs.Geometry.{section_geometry, sections_geometry}
use Rattle.schema.specs.Reading.{template_of, version_of, sections_of, dictionary_of, dictionary_length}
use Rattle.schema.specs.Seen.{seen_template, seen, find, template_at}
use Rattle.schema.specs.Laws.{Checked}
use Rattle.message.specs.Messages.{geometry_of, template_geometry}
use Rattle.schema.specs.Finding.{PlacedSection, section_at}
use Rattle.message.proofs.Verdicts.{both, told}

-- what is seen at u of the template that was found
abbrev pub seen_in : ℕ → Option PlacedSection → Option Template
seen_in u None = None
seen_in u (Some t) = Some (seen_template u (template_of t.section))

found_in : (number u p : ℕ) (ts : List Section) → find number (seen u (map template_of ts)) ≡ seen_in u (section_at number u p ts)
found_in number u p [] = refl
found_in number u p (t ∷ ts) =
    let rest = found_in number u (p + section_size t) ts in
    ⊎_elim
    (λ a. ⊎_elim (λ b. rw (a.0, b.0)) (λ b. rw (a.0, b.0) rest) (eqb_tells t.number number))
    (λ a. rw a.0 rest)
    (leb_tells t.since u)

-- the template at a version is that of the first section that has its number and is there
pub template_in_section : (s : List ℕ) (number u : ℕ) → template_at (dictionary_of s) number u ≡ seen_in u (section_at number u 7 (sections_of s))
template_in_section s number u = found_in number u 7 (sections_of s)

geometry_in : (known : Known) (version number u p : ℕ) (ts : List Section) → sections_geometry known version p ts ≡ fine → geometry_of known version (section_at number u p ts) ≡ fine
geometry_in known version number u p [] e = refl
geometry_in known version number u p (t ∷ ts) e =
    let h = both (section_geometry known version p t) _ e in
    let rest = geometry_in known version number u (p + section_size t) ts h.1 in
    ⊎_elim
    (λ a. ⊎_elim (λ b. rw (a.0, b.0) h.0) (λ b. rw (a.0, b.0) rest) (eqb_tells t.number number))
    (λ a. rw a.0 rest)
    (leb_tells t.since u)

-- in a dictionary that passes the check every template has its types and geometry right
pub geometry_passes : (known : Known) (s : List ℕ) → Checked known s → (number u : ℕ) → template_geometry known s number u ≡ fine
geometry_passes known s c number u =
    let a = told (dictionary_length (length s) && eqb (number_2 s 1) (length s)) _ _ c.passed in
    let b = told (eqb (get_or s 0 0) 1) _ _ a.1 in
    let d = both (sections_shape 0 7 (sections (drop 7 s))) _ b.1 in
    geometry_in known (version_of s) number u 7 (sections_of s) d.1
