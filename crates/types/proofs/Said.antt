-- Each value that can be said is what some value of the code stands for.
use Rattle.std.proofs.Common.{◌≡◌, ℕ, ◌⊎◌, List, refl, inl, inr, Bor}
use Rattle.types.specs.declared.value.Value.{Value}
use Rattle.types.specs.declared.value.Value.TheVariants as value
use Rattle.types.specs.Meanings.{Meaning, absent, unsigned, signed, decimal, text, investor, meaning, Sayable}

-- a value of the code that stands for m
abbrev pub Said : Meaning → Type 0
Said m = (v : Value) × (meaning v ≡ m)

-- any reference to the characters will do for a text
pub said_text : (r : Bor (List ℕ)) → Said (text r.now)
said_text r = (value.Text r, refl)

-- A `Value` bounds none of its numbers here: that each fits its type is what `Sayable m` says, of the value as of m.
pub said : (m : Meaning) → Sayable m → (m ≡ absent) ⊎ Said m
said absent h = inl refl
said (unsigned n) h = inr (value.Unsigned n, refl)
said (signed z) h = inr (value.Signed z, refl)
said (decimal z d) h = inr (value.Decimal z d, refl)
said (text s) h = inr (said_text (record { ref_ptr = (0, 0); now = s }))
said (investor p d) h = inr (value.Investor (p, d), refl)
