-- From empty data to their bytes, by writing one after the other.
use Rattle.std.proofs.Common.{◌≡◌, ℕ, ◌+◌, ◌^◌, ◌<◌, ◌≤◌, true, false, eqb, List, [], ◌∷◌, map, length, Ok, sym, refl, ap, ◌∙◌, arith, length-append}
use Rattle.std.specs.List.{AllByRecursion}
use Rattle.std.proofs.lemmas.Bool.{eq-eqb, ne_eqb}
use Rattle.wire.specs.Bytes.{Bytes}
use Rattle.wire.specs.Numbers.{le_bytes}
use Rattle.wire.proofs.Values.{length_le_bytes}
use Rattle.schema.specs.WellFormed.{Distinct}
use Rattle.message.specs.Frames.{DataView, part_bytes, parts_bytes, Parts}
use Rattle.calls.specs.Changes.{part_in, with_part}
use Rattle.calls.proofs.Steps.{Steps, over, more, steps_within}

-- one data written, from contents to contents; the data do not get shorter
pub record OneWrite (ds : List DataView) (xs after : List (List ℕ)) : Type 0 where
  pub part : DataView
  pub old : List ℕ
  pub new : List ℕ
  pub tag_fits : part.tag < 2 ^ 32
  pub bytes : Bytes new
  pub short : length new ≤ part.longest
  pub place : ℕ → ℕ
  pub found : (p : ℕ) → part_in p ds xs part.tag ≡ Ok (record { place = place p; part = part; content = old })
  pub leaves : with_part part.tag new ds xs ≡ after
  pub grows : length (parts_bytes ds xs) ≤ length (parts_bytes ds after)
  -- its tag is one of the data's
  pub among : (t : ℕ) → AllByRecursion (λ u. u ≡ t → ⊥) (map (λ d. d.tag) ds) → part.tag ≡ t → ⊥

part_long : (d : DataView) (x : List ℕ) → length (part_bytes d x) ≡ d.prefix + length x
part_long d x = length-append (le_bytes d.prefix (length x)) x ∙ ap (λ n. n + length x) (length_le_bytes d.prefix (length x))

-- the first data is written
write_first : (d : DataView) (ds : List DataView) (x : List ℕ) (xs : List (List ℕ)) → d.tag < 2 ^ 32 → length x ≤ d.longest → Bytes x → OneWrite (d ∷ ds) ([] ∷ xs) (x ∷ xs)
write_first d ds x xs fits short bytes =
    let same : eqb d.tag d.tag ≡ true = eq-eqb d.tag d.tag refl in
    let a = part_long d [] in
    let b = part_long d x in
    record {
      part = d;
      old = [];
      new = x;
      tag_fits = fits;
      bytes = bytes;
      short = short;
      place = λ p. p;
      found = λ p. rw same;
      leaves = rw same;
      grows = rw (length-append (part_bytes d []) (parts_bytes ds xs), length-append (part_bytes d x) (parts_bytes ds xs)) (omega arith);
      among = λ t all e. all.0 e;
    }

-- a data behind the first is written
write_behind : (d : DataView) (ds : List DataView) (x : List ℕ) (xs after : List (List ℕ)) → AllByRecursion (λ u. u ≡ d.tag → ⊥) (map (λ h. h.tag) ds) → OneWrite ds xs after → OneWrite (d ∷ ds) (x ∷ xs) (x ∷ after)
write_behind d ds x xs after differs s =
    let other : eqb d.tag s.part.tag ≡ false = ne_eqb d.tag s.part.tag (λ e. s.among d.tag differs (sym e)) in
    let l = s.grows in
    record {
      part = s.part;
      old = s.old;
      new = s.new;
      tag_fits = s.tag_fits;
      bytes = s.bytes;
      short = s.short;
      place = λ p. s.place (p + length (part_bytes d x));
      found = λ p. rw other (s.found (p + length (part_bytes d x)));
      leaves = rw other (ap (λ xs. x ∷ xs) s.leaves);
      grows = rw (length-append (part_bytes d x) (parts_bytes ds xs), length-append (part_bytes d x) (parts_bytes ds after)) (omega arith);
      among = λ t all e. s.among t all.1 e;
    }

pub parts_reached : (ds : List DataView) (xs : List (List ℕ)) → AllByRecursion (λ d. d.tag < 2 ^ 32) ds → Distinct (map (λ d. d.tag) ds) → Parts ds xs → Steps (OneWrite ds) (map (λ _. []) ds) xs
parts_reached [] [] good d k = over
parts_reached [] (x ∷ xs) good d k = absurd k
parts_reached (h ∷ ds) [] good d k = absurd k
parts_reached (h ∷ ds) (x ∷ xs) good d k =
    more (write_first h ds x (map (λ _. []) ds) good.0 k.0 k.1)
    (steps_within (λ ys. x ∷ ys) (λ a b s. write_behind h ds x a b d.0.1 s) (parts_reached ds xs good.1 d.1 k.2))
