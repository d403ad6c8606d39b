-- What is known of a section that a form is filled in by.
use Rattle.std.proofs.Common.{◌≡◌, ℕ, ◌≤◌, Bool, true, false, cond, leb, List, Some, None, Ok, Option, sym, ap, ◌∙◌, arith}
use Rattle.wire.specs.Bytes.{Bytes}
use Rattle.types.specs.Kinds.{Known, AllLawful}
use Rattle.schema.specs.Sections.{Section}
use Rattle.schema.specs.Geometry.{section_geometry}
use Rattle.schema.specs.Reading.{version_of, sections_of}
use Rattle.schema.specs.Finding.{PlacedSection, section_at}
use Rattle.message.specs.Messages.{is_there}
use Rattle.message.specs.Fronts.{front_message}
use Rattle.calls.specs.Calls.{Numbers}
use Rattle.calls.proofs.Worked.{before_there, before_rule}
use Rattle.steps.specs.Steps.{not_this_form, working_by, working}
use Rattle.steps.proofs.Fronts.{working_held}
use Rattle.filling.specs.Fits.{RightSection}

-- what is answered where a test holds
answered : (b : Bool) (t u : Section) → cond b (Ok t) not_this_form ≡ Ok u → t ≡ u
answered true t u p = cc
answered false t u p = let z : ◌≡◌ {A = ℕ} 0 1 = cc in absurd (omega arith)

module _ (known : Known) (s buffer : List ℕ) (n : Numbers) where
  right_by : (o : Option PlacedSection) (t : Section) → working_by known s buffer n o ≡ Ok t → RightSection known t
  right_by None t p = let z : ◌≡◌ {A = ℕ} 0 1 = cc in absurd (omega arith)
  right_by (Some x) t p =
      let h = before_there (section_geometry known (version_of s) x.place x.section) _ t p in
      let same = answered (is_there (front_message known s n.template n.version n.length buffer)) x.section t h.1 in
      record { version = version_of s; place = x.place; geometry = ap (section_geometry known (version_of s) x.place) (sym same) ∙ h.0 }

  pub right : (t : Section) → working known s buffer n ≡ Ok t → RightSection known t
  right t p = right_by (section_at n.template n.version 7 (sections_of s)) t (before_rule (leb n.version (version_of s)) _ _ t p).1

-- the form's frame is no longer than a frame may be
pub short : (known : Known) (lawful : AllLawful known) (s buffer : List ℕ) (n : Numbers) → Bytes buffer → (t : Section) → working known s buffer n ≡ Ok t → n.length ≤ 16384
short known lawful s buffer n y t p = (working_held known s buffer n lawful y t p).held.most
