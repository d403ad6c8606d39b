use Rattle.std.proofs.Common.{◌≡◌, ℕ, ◌+◌, ◌≤◌, length, drop, Some, None, Option, MatchOption, sym, ap, ◌∙◌, rules, tests, arith, length-drop}
use Rattle.std.specs.Prelude.{⊤}
use Rattle.schema.specs.Sections.{sections, section_size}
use Rattle.schema.specs.Lines.{there}
use Rattle.schema.specs.Finding.{section_at, seen_of}
use Rattle.schema.specs.Reading.{sections_of}
use Rattle.schema.proofs.Finding.{section_is_template}
use Rattle.dictionary.specs.declared.found.Found.{Found}
use Rattle.dictionary.specs.Found.{shown_found, FoundWithin}
use Rattle.dictionary.specs.Shown.{shown_section}
use Rattle.dictionary.proofs.Placing.{passed, stopped}
use Rattle.dictionary.proofs.finding.find.Goals as goal

told : (c : goal.After-find) → (shown_found c.find.result ≡ section_at c.args.number c.args.version 7 (sections_of c.args.dictionary.now)) × MatchOption c.find.result ⊤ (λ x. x.place + section_size (shown_section x.section) ≤ 7 + length (drop 7 c.args.dictionary.now))
told c =
    let ran = c.find.ensures.ran in
    let before = passed c.args.number c.args.version _ _ (λ x q k. (search (rules, tests), search (rules, tests))) ran.0 c.of.result ran.2.0 ran.1 ran.2.1 ran.3 in
    let at = stopped c.args.number c.args.version ran.2.0 c.find.new.self c.find.result _ (λ x k. search (rules, tests)) ran.2.2 ran.4 in
    let bytes : c.of.result.sections.rest.now ≡ drop 7 c.args.dictionary.now = c.of.ensures.bytes ∙ c.beyond.ensures in (
      at.0 ∙ sym before.1 ∙ ap (λ p. section_at c.args.number c.args.version p (there (sections c.of.result.sections.rest.now))) c.of.ensures.place ∙ ap (λ s. section_at c.args.number c.args.version 7 (there (sections s))) bytes,
      bounded c.find.result _ _ at.1 (let l = ap length bytes in omega (arith, before.2, c.of.ensures.place)),
    )
  where
    bounded : (r : Option Found) (m n : ℕ) → MatchOption r ⊤ (λ x. x.place + section_size (shown_section x.section) ≤ m) → m ≤ n → MatchOption r ⊤ (λ x. x.place + section_size (shown_section x.section) ≤ n)
    bounded None m n h l = h
    bounded (Some x) m n h l = omega (arith, h, l)

pub returns-clause-value : goal.returns-clause-value
returns-clause-value c = (told c).0

pub returns-clause-template : goal.returns-clause-template
returns-clause-template c = ap (seen_of c.args.version) (told c).0 ∙ section_is_template c.args.dictionary.now c.args.number c.args.version 7

pub returns-clause-within : goal.returns-clause-within
returns-clause-within c = within c.find.result (told c).1
  where
    within : (r : Option Found) → MatchOption r ⊤ (λ x. x.place + section_size (shown_section x.section) ≤ 7 + length (drop 7 c.args.dictionary.now)) → FoundWithin r (length c.args.dictionary.now)
    within None h = tt
    within (Some x) h = let l = length-drop 7 c.args.dictionary.now in omega (arith, h)
