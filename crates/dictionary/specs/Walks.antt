-- What the walks over bytes hand out, one after the other. Assumes nothing.
use Rattle.std.specs.Prelude.{◌≡◌, ℕ, ◌+◌, ◌≤◌, List, [], ◌∷◌, length, drop, Some, None, Option}
use Rattle.schema.specs.Lines.{Line, line_size, first_line, lines, there}
use Rattle.schema.specs.Sections.{Section, section_size, first_section, sections}
use Rattle.dictionary.specs.declared.line.Line.{Line as CodeLine}
use Rattle.dictionary.specs.declared.section.Section.{Section as CodeSection}
use Rattle.dictionary.specs.declared.lines.Lines.{Lines}
use Rattle.dictionary.specs.declared.sections.Sections.{Sections}
use Rattle.dictionary.specs.Shown.{shown_line, shown_section}

-- a step of a walk that has some bytes left, and among them a list: it gives the first of the list and leaves the others, with fewer bytes by what that one takes at least; or None, where the list is empty and stays so
abbrev pub Gives : {W A X : Type 0} → (A → ℕ) → (A → X) → (W → List ℕ) → (W → List X) → W → Option A → W → Type 0
Gives takes shown bytes left w None w' = (left w ≡ []) × (left w' ≡ [])
Gives takes shown bytes left w (Some x) w' = (left w ≡ shown x ∷ left w') × (length (bytes w') + takes x ≤ length (bytes w))

-- a step that cuts off what the bytes begin with, or leaves them where they begin with none
abbrev pub Cuts : {W A X : Type 0} → (List ℕ → Option X) → (X → ℕ) → (A → X) → (W → List ℕ) → W → Option A → W → Type 0
Cuts first size shown bytes w None w' = (first (bytes w) ≡ None) × (bytes w' ≡ bytes w)
Cuts first size shown bytes w (Some x) w' = (first (bytes w) ≡ Some (shown x)) × (bytes w' ≡ drop (size (shown x)) (bytes w))

abbrev pub lines_left : Lines → List Line
lines_left w = there (lines w.rest.now)

-- a line by its size
abbrev pub GivesLine : Lines → Option CodeLine → Lines → Type 0
GivesLine w o w' = Gives (λ x. line_size (shown_line x)) shown_line (λ x. x.rest.now) lines_left w o w' × Cuts first_line line_size shown_line (λ x. x.rest.now) w o w'

abbrev pub sections_left : Sections → List Section
sections_left w = there (sections w.rest.now)

-- a template by its size
abbrev pub GivesSection : Sections → Option CodeSection → Sections → Type 0
GivesSection w o w' = Gives (λ x. section_size (shown_section x)) shown_section (λ x. x.rest.now) sections_left w o w' × Cuts first_section section_size shown_section (λ x. x.rest.now) w o w'
