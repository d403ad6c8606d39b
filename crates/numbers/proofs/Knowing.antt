-- Which types the number library knows.
use Rattle.std.proofs.Common.{◌≡◌, ℕ, zero, suc, false, cond, ◌&&◌, eqb, leb, List, [], ◌∷◌, is_some, is_ok, Some, None, Option, refl, ◌∙◌, ⊎_elim, arith}
use Rattle.std.proofs.lemmas.Bool.Decides.{nat_tests, eqb_tells}
use Rattle.std.proofs.lemmas.Bool.{cases_Bool}
use Rattle.types.specs.Kinds.{Kind}
use Rattle.types.specs.Answers.{width_of}
use Rattle.numbers.specs.declared.numeric.Width.{Width}
use Rattle.numbers.specs.declared.numeric.Form.{Form}
use Rattle.numbers.specs.declared.numeric.Form.TheVariants.{Unsigned, Signed, Decimal}
use Rattle.numbers.specs.declared.numeric.Absent.{Absent}
use Rattle.numbers.specs.declared.numeric.Numeric.{Numeric}
use Rattle.numbers.specs.Numerics.{entry_of, rule_of, with_rule, with_form, numeric_of}
use Rattle.numbers.specs.Codes.{code_list}
use Rattle.numbers.specs.Types.{found_number, found_of, kind_of, number_kinds, is_number_type}

-- the last rule of a form
abbrev last_rule : Form → ℕ
last_rule Unsigned = 2
last_rule Signed = 3
last_rule (Decimal d) = 3

rule_known : (form : Form) (byte : ℕ) → is_some (rule_of form byte) ≡ leb byte (last_rule form)
rule_known Unsigned byte = grind (arith, nat_tests)
rule_known Signed byte = grind (arith, nat_tests)
rule_known (Decimal d) byte = grind (arith, nat_tests)

with_rule_known : (width : Width) (form : Form) (rule : Option Absent) → is_some (with_rule width form rule) ≡ is_some rule
with_rule_known width form None = refl
with_rule_known width form (Some rule) = refl

with_form_known : (width : Width) (form : Form) (byte : ℕ) → is_some (with_form (Some (width, form)) byte) ≡ leb byte (last_rule form)
with_form_known width form byte = with_rule_known width form (rule_of form byte) ∙ rule_known form byte

-- the table, number by number
numbered : (number decimals byte : ℕ) → is_some (with_form (entry_of number decimals) byte) ≡ cond (eqb number 8) (leb byte 3) ((leb 1 number && leb number 6) && leb byte (cond (leb number 4) 2 3))
numbered zero d b = refl
numbered (suc zero) d b = with_form_known _ Unsigned b
numbered (suc (suc zero)) d b = with_form_known _ Unsigned b
numbered (suc (suc (suc zero))) d b = with_form_known _ Unsigned b
numbered (suc (suc (suc (suc zero)))) d b = with_form_known _ Unsigned b
numbered (suc (suc (suc (suc (suc zero))))) d b = with_form_known _ Signed b
numbered (suc (suc (suc (suc (suc (suc zero)))))) d b = with_form_known _ Signed b
numbered (suc (suc (suc (suc (suc (suc (suc zero))))))) d b = refl
numbered (suc (suc (suc (suc (suc (suc (suc (suc zero)))))))) d b = with_form_known _ (Decimal d) b
numbered (suc (suc (suc (suc (suc (suc (suc (suc (suc n))))))))) d b = grind (arith, nat_tests)

found_known : (argument : List ℕ) (t : Option Numeric) → is_some (kind_of argument (found_number t)) ≡ is_some t
found_known argument None = refl
found_known argument (Some t) = refl

numeric_known : (number : ℕ) (argument : List ℕ) → eqb number 7 ≡ false → is_some (numeric_of number argument) ≡ is_number_type number argument
numeric_known number [] e = grind (arith, nat_tests)
numeric_known number (a ∷ []) e = let n = numbered number 0 a in grind (arith, nat_tests)
numeric_known number (a ∷ (b ∷ [])) e = let n = numbered number b a in grind (arith, nat_tests)
numeric_known number (a ∷ (b ∷ (c ∷ s))) e = grind (arith, nat_tests)

codes_known : (argument : List ℕ) → is_some (kind_of argument (found_of 7 argument)) ≡ code_list argument
codes_known argument = ⊎_elim (λ t. rw t) (λ f. rw f) (cases_Bool (code_list argument))

type_known : (number : ℕ) (argument : List ℕ) → is_some (number_kinds number argument) ≡ is_number_type number argument
type_known number argument =
    ⊎_elim
    (λ x. let is = x.1 in rw is (codes_known argument))
    (λ x.
    let other : eqb number 7 ≡ false = x.0 in
    let known = found_known argument (numeric_of number argument) ∙ numeric_known number argument other in
    rw other (rw other at known))
    (eqb_tells number 7)

width_known : (k : Option Kind) → is_ok (width_of k) ≡ is_some k
width_known None = refl
width_known (Some k) = refl

-- a type has a width if it is a number type
pub known_types : (number : ℕ) (argument : List ℕ) → is_ok (width_of (number_kinds number argument)) ≡ is_number_type number argument
known_types number argument = width_known (number_kinds number argument) ∙ type_known number argument
