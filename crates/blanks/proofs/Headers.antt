-- The six numbers of a header, put one after the other.
use Rattle.std.proofs.Common.{◌≡◌, ℕ, ◌≤◌, List, ◌++◌, length, refl, arith}
use Rattle.wire.specs.Numbers.{le_bytes}
use Rattle.message.specs.Messages.{header}
use Rattle.moves.specs.Moves.{patched}
use Rattle.moves.proofs.Patches.{patched_on}

pub header_put : (whole size number schema version : ℕ) (bs b₁ b₂ b₃ b₄ b₅ b₆ : List ℕ) → 12 ≤ length bs → b₁ ≡ patched 0 (le_bytes 2 whole) bs → b₂ ≡ patched 2 (le_bytes 2 0xEB50) b₁ → b₃ ≡ patched 4 (le_bytes 2 size) b₂ → b₄ ≡ patched 6 (le_bytes 2 number) b₃ → b₅ ≡ patched 8 (le_bytes 2 schema) b₄ → b₆ ≡ patched 10 (le_bytes 2 version) b₅ → b₆ ≡ patched 0 (header whole size number schema version) bs
header_put whole size number schema version bs b₁ b₂ b₃ b₄ b₅ b₆ h e₁ e₂ e₃ e₄ e₅ e₆ =
    let x₂ = le_bytes 2 whole ++ le_bytes 2 0xEB50 in
    let x₃ = x₂ ++ le_bytes 2 size in
    let x₄ = x₃ ++ le_bytes 2 number in
    let x₅ = x₄ ++ le_bytes 2 schema in
    let f₂ = patched_on 0 2 (le_bytes 2 whole) (le_bytes 2 0xEB50) bs b₁ b₂ e₁ e₂ refl (omega arith) in
    let f₃ = patched_on 0 4 x₂ (le_bytes 2 size) bs b₂ b₃ f₂ e₃ refl (omega arith) in
    let f₄ = patched_on 0 6 x₃ (le_bytes 2 number) bs b₃ b₄ f₃ e₄ refl (omega arith) in
    let f₅ = patched_on 0 8 x₄ (le_bytes 2 schema) bs b₄ b₅ f₄ e₅ refl (omega arith) in
    patched_on 0 10 x₅ (le_bytes 2 version) bs b₅ b₆ f₅ e₆ refl (omega arith)
