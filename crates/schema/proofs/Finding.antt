-- The section that is found is the template of that number as seen at the version.
use Rattle.std.proofs.Common.{◌≡◌, ℕ, ◌+◌, Bool, true, false, cond, ◌&&◌, eqb, leb, List, [], ◌∷◌, map, Some, Option, sym, refl, ap, ◌∙◌}
use Rattle.schema.specs.Sections.{Section, section_size}
use Rattle.schema.specs.Structure.{Template}
use Rattle.schema.specs.Reading.{template_of, sections_of, dictionary_of}
use Rattle.schema.specs.Seen.{seen_template, seen, find, template_at}
use Rattle.schema.specs.Finding.{PlacedSection, section_at, seen_of}

by_tests : (old same : Bool) (version : ℕ) (t : Section) (p : ℕ) (number : ℕ) (rest : Option PlacedSection) (ts : List Template) → eqb t.number number ≡ same → seen_of version rest ≡ find number ts → seen_of version (cond (old && same) (Some (record { place = p; section = t })) rest) ≡ find number (cond old (seen_template version (template_of t) ∷ ts) ts)
by_tests true true version t p number rest ts e h = ap (λ b. cond b (Some (seen_template version (template_of t))) (find number ts)) (sym e)
by_tests true false version t p number rest ts e h = h ∙ ap (λ b. cond b (Some (seen_template version (template_of t))) (find number ts)) (sym e)
by_tests false same version t p number rest ts e h = h

found : (number version p : ℕ) (ts : List Section) → seen_of version (section_at number version p ts) ≡ find number (seen version (map template_of ts))
found number version p [] = refl
found number version p (t ∷ ts) =
    by_tests (leb t.since version) (eqb t.number number) version t p number
    (section_at number version (p + section_size t) ts) (seen version (map template_of ts)) refl (found number version (p + section_size t) ts)

pub section_is_template : (s : List ℕ) (number version p : ℕ) → seen_of version (section_at number version p (sections_of s)) ≡ template_at (dictionary_of s) number version
section_is_template s number version p = found number version p (sections_of s)
