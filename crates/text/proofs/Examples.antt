-- Some patterns and what they mean.
use Rattle.std.proofs.Common.{◌≡◌, [], ◌∷◌, Some, None, refl}
use Rattle.types.specs.Meanings.{absent, text, investor}
use Rattle.text.specs.Texts.{text_means, text_pattern}
use Rattle.text.specs.Investors.{investor_means, investor_pattern}

padded_text : text_pattern 4 (text (0x4F ∷ 0x4B ∷ [])) ≡ Some (0x4F ∷ 0x4B ∷ 0 ∷ 0 ∷ [])
padded_text = refl

-- a text that fills its width
full_text : text_means 2 (0x4F ∷ 0x4B ∷ []) ≡ Some (text (0x4F ∷ 0x4B ∷ []))
full_text = refl

-- A, zero, B
broken_text : text_means 3 (0x41 ∷ 0 ∷ 0x42 ∷ []) ≡ None
broken_text = refl

absent_text : text_means 3 (0 ∷ 0 ∷ 0 ∷ []) ≡ Some absent
absent_text = refl

empty_text : text_pattern 3 (text []) ≡ None
empty_text = refl

an_investor : investor_pattern (investor 300 123456) ≡ Some (0x2C ∷ 0x01 ∷ 0 ∷ 0 ∷ 0x40 ∷ 0xE2 ∷ 0x01 ∷ 0 ∷ [])
an_investor = refl

no_investor : investor_pattern (investor 0 0) ≡ None
no_investor = refl

broken_investor : investor_means (0x2C ∷ 0x01 ∷ 0 ∷ 1 ∷ 0x40 ∷ 0xE2 ∷ 0x01 ∷ 0 ∷ []) ≡ None
broken_investor = refl
