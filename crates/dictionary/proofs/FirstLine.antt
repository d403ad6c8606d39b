-- The first line of bytes, by the bytes that its length byte cuts off.
use Rattle.std.proofs.Common.{◌≡◌, ℕ, ◌≤◌, ◌&&◌, leb, List, length, get_or, take, sym, ◌∙◌, ap₂}
use Rattle.std.proofs.lemmas.Bool.{le-leb, and_from, cond-true}
use Rattle.schema.specs.Lines.{line_of, first_line}

pub first_by : (s l : List ℕ) → 2 ≤ length s → get_or s 0 0 ≤ length s → l ≡ take (get_or s 0 0) s → length l ≡ get_or s 0 0 → line_of (length l) (get_or s 1 0) l ≡ first_line s
first_by s l two fits is long =
    ap₂ (λ n x. line_of n (get_or s 1 0) x) long is
    ∙ sym (cond-true (leb 2 (length s) && leb (get_or s 0 0) (length s)) _ _ (and_from _ _ (le-leb 2 (length s) two) (le-leb (get_or s 0 0) (length s) fits)))
