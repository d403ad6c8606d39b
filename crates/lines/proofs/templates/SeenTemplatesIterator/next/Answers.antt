use Rattle.std.proofs.Common.{◌≡◌, ℕ, ◌+◌, ◌≤◌, true, false, cond, nat_le, List, [], ◌∷◌, length, Some, None, Option, MatchOption, refl, ap, ◌∙◌, rules, tests, arith}
use Rattle.std.specs.Prelude.{⊤}
use Rattle.std.specs.Iterator.{MakesProgress, item_count}
use Rattle.std.specs.declared.iter.Iterator.{can_next-default}
use Rattle.lines.specs.declared.templates.SeenTemplates.{SeenTemplates}
use Rattle.schema.specs.Structure.{Template}
use Rattle.schema.specs.Seen.{seen, seen_template}
use Rattle.dictionary.specs.declared.section.Section.{Section}
use Rattle.lines.specs.declared.templates.Templates.{Templates}
use Rattle.lines.specs.Walks.{templates_left, seen_templates_left, template_at, GivesTemplate}
use Rattle.lines.proofs.Skipping.{skips, as_gives}
use Rattle.lines.proofs.templates.SeenTemplatesIterator.next.Goals as goal

-- the template that is found, or that none is
found : (v : ℕ) (s t u : Templates) (r : Option Section) (P : Section → Type 0) → ((x : Section) → P x → nat_le x.since v ≡ true) → seen v (templates_left s) ≡ seen v (templates_left t) → length t.sections.rest.now ≤ length s.sections.rest.now
    → GivesTemplate t r u → MatchOption r ⊤ P
    → MatchOption r ((seen v (templates_left s) ≡ []) × (seen v (templates_left u) ≡ [])) (λ x. (seen v (templates_left s) ≡ seen_template v (template_at x) ∷ seen v (templates_left u)) × (length u.sections.rest.now + 8 ≤ length s.sections.rest.now))
found v s t u None P seen-then e l h k = (e ∙ ap (seen v) h.0, ap (seen v) h.1)
found v s t u (Some x) P seen-then e l h k = (e ∙ ap (seen v) h.0 ∙ ap (λ b. cond b (seen_template v (template_at x) ∷ seen v (templates_left u)) (seen v (templates_left u))) (seen-then x k), omega (arith, l, h.1))

told : (c : goal.After-find) → MatchOption c.find.result ((seen c.args.self.now.version (templates_left c.args.self.now.templates) ≡ []) × (seen c.args.self.now.version (templates_left c.find.new.self) ≡ [])) (λ x. (seen c.args.self.now.version (templates_left c.args.self.now.templates) ≡ seen_template c.args.self.now.version (template_at x) ∷ seen c.args.self.now.version (templates_left c.find.new.self)) × (length c.find.new.self.sections.rest.now + 8 ≤ length c.args.self.now.templates.sections.rest.now))
told c =
    let v = c.args.self.now.version in
    let ran = c.find.ensures.ran in
    let no : (x : Section) → nat_le x.since v ≡ false → (ts : List Template) → seen v (template_at x ∷ ts) ≡ seen v ts = λ x n ts. ap (λ b. cond b (seen_template v (template_at x) ∷ seen v ts) (seen v ts)) n in
    let more = skips GivesTemplate template_at (λ w. w.sections.rest.now) templates_left (seen v) _ _ (λ x w y h. (h.0, omega (arith, h.1))) (λ x q k. (search (rules, tests), no x (search (rules, tests)))) ran.0 c.args.self.now.templates ran.2.0 ran.1 ran.2.1 ran.3 in
    found v c.args.self.now.templates ran.2.0 c.find.new.self c.find.result _ (λ x k. search (rules, tests)) more.1 more.2 ran.2.2 ran.4

pub returns-clause-steps : goal.returns-clause-steps
returns-clause-steps c = (as_gives (λ _. 8) (λ x. seen_template c.args.self.now.version (template_at x)) (λ x. x.templates.sections.rest.now) seen_templates_left c.args.self.now c.find.result (record { version = c.args.self.now.version; templates = c.find.new.self }) (told c), refl)

onward : (w w' : SeenTemplates) (r : Option Section) → MatchOption r ((seen_templates_left w ≡ []) × (seen_templates_left w' ≡ [])) (λ x. (seen_templates_left w ≡ seen_template w.version (template_at x) ∷ seen_templates_left w') × (length w'.templates.sections.rest.now + 8 ≤ length w.templates.sections.rest.now))
    → MakesProgress (can_next-default SeenTemplates Section) (item_count seen_templates_left) w r w'
onward w w' None h = search (rules, tests)
onward w w' (Some x) h =
    let less = ap length h.0 in
    search (rules, tests)

pub returns-clause-goes : goal.returns-clause-goes
returns-clause-goes c = onward c.args.self.now (record { version = c.args.self.now.version; templates = c.find.new.self }) c.find.result (told c)
