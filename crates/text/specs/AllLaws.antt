-- Each type of the library is lawful.
use Rattle.std.specs.Prelude.{◌≡◌, ℕ, ◌≤◌, Bool, true, false, cond, ◌&&◌, length, Some, Option, ◌==◌, nat_le, slice_index_or, refl}
use Rattle.std.proofs.Common.{arith, subst}
use Rattle.std.proofs.lemmas.Bool.Decides.{nat_tests}
use Rattle.types.specs.Kinds.{Kind, Lawful, AllLawful}
use Rattle.text.specs.Texts.{text_kind}
use Rattle.text.specs.Investors.{investor_kind}
use Rattle.text.specs.Known.{is_text, is_an_investor, text_kinds}
use Rattle.std.proofs.lemmas.Option.{same_Some, cond_some}
use Rattle.text.specs.TextLaws.{text_lawful}
use Rattle.text.specs.InvestorLaws.{investor_lawful}

-- the width that a type of text states
stated : (number count w : ℕ) → (number == 65 && (count == 1 && (nat_le 1 w && nat_le w 20))) ≡ true → (1 ≤ w) × (w ≤ 20)
stated number count w e = (grind (arith, nat_tests), grind (arith, nat_tests))

-- one of two that tests choose
one_of : (b : Bool) (j : Kind) (rest : Option Kind) (k : Kind) → cond b (Some j) rest ≡ Some k → (b ≡ true → Lawful j) → (rest ≡ Some k → Lawful k) → Lawful k
one_of true j rest k e p q = subst Lawful (same_Some j k e) (p refl)
one_of false j rest k e p q = q e

pub all_lawful : AllLawful text_kinds
all_lawful number argument k e =
    let w = slice_index_or argument 0 0 in
    one_of (is_text number argument) (text_kind w) _ k e
    (λ t. let b = stated number (length argument) w t in text_lawful w b.0 b.1)
    (λ r. subst Lawful (cond_some (is_an_investor number argument) investor_kind k r).1 investor_lawful)
