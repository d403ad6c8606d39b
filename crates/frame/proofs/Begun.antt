-- The items of a frame, by its template.
use Rattle.std.proofs.Common.{◌≡◌, ℕ, ◌+◌, ◌≤◌, List, [], length, Some, None, Ok, Option, Result, sym, refl, ap, ◌∙◌, Bor, MatchOption}
use Rattle.std.specs.Option.{option_map}
use Rattle.wire.specs.declared.refusal.Refusal.{Refusal}
use Rattle.wire.specs.Refusals.{bind}
use Rattle.types.specs.Kinds.{Known}
use Rattle.schema.specs.Sections.{Section}
use Rattle.schema.specs.Finding.{PlacedSection, section_at}
use Rattle.schema.specs.Reading.{template_of, version_of, sections_of}
use Rattle.schema.specs.Seen.{seen_template}
use Rattle.schema.specs.Geometry.{section_geometry}
use Rattle.dictionary.specs.declared.section.Section.{Section as CodeSection}
use Rattle.dictionary.specs.Shown.{shown_section}
use Rattle.message.specs.Messages.{stated_root, stated_template, stated_version}
use Rattle.message.specs.Walks.{Item, items_in, items_by, frame_items}
use Rattle.frame.specs.Spots.{spot_at, items_from}
use Rattle.frame.specs.Templates.{passed, template_in, Short}
use Rattle.frame.proofs.Placed.{after_geometry}
use Rattle.frame.proofs.Onward.{starts, starts_empty}

-- by the template, if there is one
abbrev pub items_of : Known → ℕ → List ℕ → Option Section → Result (List Item) Refusal
items_of known u bs None = Ok []
items_of known u bs (Some t) = Ok (items_by known bs (seen_template u (template_of t)))

passed_items : (known : Known) (last u : ℕ) (bs : List ℕ) (o : Option PlacedSection) → items_in known last u bs o ≡ bind (passed known last o) (items_of known u bs)
passed_items known last u bs None = refl
passed_items known last u bs (Some t) = after_geometry (section_geometry known last t.place t.section) t.section (items_of known u bs)

-- the lines that a walk goes by: none without a template
abbrev pub Body : Option Section → List ℕ → Type 0
Body None body = body ≡ []
Body (Some t) body = (body ≡ t.body) × (length t.body ≤ 65535)

pub body_of : {P : CodeSection → Type 0} (o : Option CodeSection) (b none : Bor (List ℕ)) → MatchOption o (b ≡ none) P → ((t : CodeSection) → P t → b ≡ t.body) → none.now ≡ [] → Short (Ok o) → Body (option_map shown_section o) b.now
body_of None b none is by empty short = ap (λ x. x.now) is ∙ empty
body_of (Some t) b none is by empty short = (ap (λ x. x.now) (by t is), short)

module _ (known : Known) (s bs : List ℕ) where
  pub template_items : frame_items known s bs ≡ bind (template_in known s bs) (items_of known (stated_version bs) bs)
  template_items = passed_items known (version_of s) (stated_version bs) bs (section_at (stated_template bs) (stated_version bs) 7 (sections_of s))

  -- before the first field all items of the frame are left
  pub begun : (o : Option Section) (u p : ℕ) (body : List ℕ) → Ok o ≡ template_in known s bs → u ≡ stated_version bs → p ≡ 12 + stated_root bs → p ≤ 65547 → Body o body → Ok (items_from known bs (spot_at u body p)) ≡ frame_items known s bs
  begun None u p body e eu ep near b =
      ap (λ (is : List Item). Ok is) (starts_empty known bs u p body b near)
      ∙ ap (λ v. bind v (items_of known (stated_version bs) bs)) e
      ∙ sym template_items
  begun (Some t) u p body e eu ep near b =
      ap (λ (is : List Item). Ok is) (ap (λ x. items_from known bs (spot_at u x p)) b.0 ∙ starts known bs u p t b.1 near ep ∙ ap (λ v. items_by known bs (seen_template v (template_of t))) eu)
      ∙ ap (λ v. bind v (items_of known (stated_version bs) bs)) e
      ∙ sym template_items
