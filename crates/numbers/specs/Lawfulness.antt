-- Each type that the number library knows is lawful.
use Rattle.std.specs.Prelude.{◌≡◌, ℕ, ◌≤◌, Bool, true, false, cond, ◌&&◌, List, [], ◌∷◌, Some, None, Option, ◌==◌, ◌≢◌, nat_le, refl}
use Rattle.std.proofs.Common.{arith, subst, ⊎_elim}
use Rattle.std.proofs.lemmas.Bool.Decides.{eqb_tells}
use Rattle.std.proofs.lemmas.Bool.{cases_Bool, and_parts, leb-true}
use Rattle.types.specs.Kinds.{Kind, Lawful, AllLawful}
use Rattle.numbers.specs.declared.numeric.Width.{Width}
use Rattle.numbers.specs.declared.numeric.Form.{Form}
use Rattle.numbers.specs.declared.numeric.Absent.{Absent}
use Rattle.numbers.specs.declared.numeric.Numeric.{Numeric}
use Rattle.numbers.specs.Numerics.{entry_of, rule_of, with_rule, with_form, numeric_of}
use Rattle.numbers.specs.Codes.{code_list}
use Rattle.numbers.specs.Kinds.{numeric_kind, codes_kind}
use Rattle.numbers.specs.Types.{Named, found_number, found_of, kind_of, number_kinds}
use Rattle.numbers.specs.Types as named
use Rattle.numbers.specs.Stands.{FewDecimals}
use Rattle.numbers.specs.NumericLaws.{numeric_lawful}
use Rattle.numbers.specs.CodeLaws.{codes_lawful}

no_codes : (t : Option Numeric) → found_number t ≢ Some named.codes
no_codes None e = grind arith
no_codes (Some t) e = grind arith

codes_found : (number : ℕ) (argument : List ℕ) → found_of number argument ≡ Some named.codes → code_list argument ≡ true
codes_found number argument e =
    ⊎_elim
    (λ a.
    let inner : cond (code_list argument) (Some named.codes) None ≡ Some named.codes = rw a.0 at e in
    ⊎_elim (λ t. t) (λ f. absurd (grind (arith, rw f at inner))) (cases_Bool (code_list argument)))
    (λ a. absurd (no_codes (numeric_of number argument) (rw a.0 at e)))
    (eqb_tells number 7)

-- ---- the decimals of a type are at most 9

abbrev FewEntry : Option (Width × Form) → Type 0
FewEntry None = Unit {0}
FewEntry (Some entry) = FewDecimals entry.1

abbrev FewNumeric : Option Numeric → Type 0
FewNumeric None = Unit {0}
FewNumeric (Some t) = FewDecimals t.form

few_either : (b : Bool) (x rest : Option (Width × Form)) → FewEntry x → FewEntry rest → FewEntry (cond b x rest)
few_either true x rest p q = p
few_either false x rest p q = q

few_entry : (number decimals : ℕ) → decimals ≤ 9 → FewEntry (entry_of number decimals)
few_entry number d h =
    few_either (number == 1) _ _ tt
    (few_either (number == 2) _ _ tt
    (few_either (number == 3) _ _ tt
    (few_either (number == 4) _ _ tt
    (few_either (number == 5) _ _ tt
    (few_either (number == 6) _ _ tt
    (few_either (number == 8) _ _ (omega arith) tt))))))

few_with_rule : (width : Width) (form : Form) (rule : Option Absent) → FewDecimals form → FewNumeric (with_rule width form rule)
few_with_rule width form None h = tt
few_with_rule width form (Some rule) h = h

few_with_form : (entry : Option (Width × Form)) (byte : ℕ) → FewEntry entry → FewNumeric (with_form entry byte)
few_with_form None byte h = tt
few_with_form (Some entry) byte h = few_with_rule entry.0 entry.1 (rule_of entry.1 byte) h

few_if : (b : Bool) (t : Option Numeric) → (b ≡ true → FewNumeric t) → FewNumeric (cond b t None)
few_if true t h = h refl
few_if false t h = tt

few_unless : (b : Bool) (t : Option Numeric) → FewNumeric t → FewNumeric (cond b None t)
few_unless true t h = tt
few_unless false t h = h

few_numeric : (number : ℕ) (argument : List ℕ) → FewNumeric (numeric_of number argument)
few_numeric number [] = tt
few_numeric number (byte ∷ []) =
    few_unless (number == 8) (with_form (entry_of number 0) byte)
    (few_with_form (entry_of number 0) byte (few_entry number 0 (omega arith)))
few_numeric number (byte ∷ (decimals ∷ [])) =
    few_if (number == 8 && nat_le decimals 9) (with_form (entry_of number decimals) byte)
    (λ e. few_with_form (entry_of number decimals) byte (few_entry number decimals (leb-true decimals 9 (and_parts (number == 8) (nat_le decimals 9) e).1)))
few_numeric number (byte ∷ (decimals ∷ (more ∷ rest))) = tt

number_found : (t : Option Numeric) (x : Numeric) → found_number t ≡ Some (named.number x) → t ≡ Some x
number_found None x e = absurd (grind arith)
number_found (Some t) x e = cc

few_found : (number : ℕ) (argument : List ℕ) (t : Numeric) → found_of number argument ≡ Some (named.number t) → FewDecimals t.form
few_found number argument t e =
    ⊎_elim
    (λ a.
    let inner : cond (code_list argument) (Some named.codes) None ≡ Some (named.number t) = rw a.0 at e in
    ⊎_elim (λ y. absurd (grind (arith, rw y at inner))) (λ n. absurd (grind (arith, rw n at inner))) (cases_Bool (code_list argument)))
    (λ a. subst FewNumeric (number_found (numeric_of number argument) t (rw a.0 at e)) (few_numeric number argument))
    (eqb_tells number 7)

-- ---- the laws

found_lawful : (number : ℕ) (argument : List ℕ) (f : Option Named) → found_of number argument ≡ f → (k : Kind) → kind_of argument f ≡ Some k → Lawful k
found_lawful number argument None h k e = absurd (grind arith)
found_lawful number argument (Some named.codes) h k e =
    let is : codes_kind argument ≡ k = cc in
    subst Lawful is (codes_lawful argument (codes_found number argument h))
found_lawful number argument (Some (named.number t)) h k e =
    let is : numeric_kind t ≡ k = cc in
    subst Lawful is (numeric_lawful t (few_found number argument t h))

pub numbers_lawful : AllLawful number_kinds
numbers_lawful number argument k e = found_lawful number argument (found_of number argument) refl k e
