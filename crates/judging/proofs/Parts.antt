-- The data of a frame, one by one.
use Rattle.std.proofs.Common.{◌≡◌, ℕ, ◌+◌, ◌≤◌, Bool, true, false, cond, leb, List, ◌∷◌, map, length, drop, Ok, Err, Result, sym, refl, ap, ◌∙◌, subst, ap₂, arith}
use Rattle.std.proofs.lemmas.Bool.{leb-true}
use Rattle.wire.specs.declared.refusal.Reason.TheVariants as reason
use Rattle.wire.specs.declared.refusal.Refusal.{Refusal}
use Rattle.wire.specs.Refusals.{refusal, bind}
use Rattle.schema.specs.Verdicts.{Verdict, fine, rule, ◌then◌}
use Rattle.schema.specs.Structure.{Data}
use Rattle.message.specs.Frames.{parts_verdict, content_length, part_length}
use Rattle.message.specs.Messages.{data_view}
use Rattle.judging.specs.Steps.{part_step}

abbrev rules : Bool → Bool → Bool → Refusal → Refusal → Refusal → ℕ → Result ℕ Refusal
rules a b c e f g n = bind (cond a fine (Err e)) (λ _. bind (cond b fine (Err f)) (λ _. bind (cond c fine (Err g)) (λ _. Ok n)))

told : (a b c : Bool) (e f g : Refusal) (n m : ℕ) (w : Verdict) → rules a b c e f g n ≡ Ok m → (n ≡ m) × (c ≡ true) × ((cond a fine (Err e) then (cond b fine (Err f) then (cond c fine (Err g) then w))) ≡ w)
told true true true e f g n m w h = (cc, refl, refl)
told true true false e f g n m w h = let z : ◌≡◌ {A = ℕ} 0 1 = cc in absurd (omega arith)
told true false c e f g n m w h = let z : ◌≡◌ {A = ℕ} 0 1 = cc in absurd (omega arith)
told false b c e f g n m w h = let z : ◌≡◌ {A = ℕ} 0 1 = cc in absurd (omega arith)

told_refused : (a b c : Bool) (e f g x : Refusal) (n : ℕ) (w : Verdict) → rules a b c e f g n ≡ Err x → (cond a fine (Err e) then (cond b fine (Err f) then (cond c fine (Err g) then w))) ≡ Err x
told_refused true true true e f g x n w h = let z : ◌≡◌ {A = ℕ} 0 1 = cc in absurd (omega arith)
told_refused true true false e f g x n w h = let same : g ≡ x = cc in ap (λ r. Err r) same
told_refused true false c e f g x n w h = let same : f ≡ x = cc in ap (λ r. Err r) same
told_refused false b c e f g x n w h = let same : e ≡ x = cc in ap (λ r. Err r) same

-- a data that passes is there
pub part_there : (tag longest place n : ℕ) (bs : List ℕ) → part_step tag longest place bs ≡ Ok n → n ≤ length bs
part_there tag longest place n bs ok =
    let t = told (leb 1 (length bs)) (leb (content_length 1 bs) longest) (leb (part_length 1 bs) (length bs)) (refusal reason.PastEnd place tag) (refusal reason.TooMany place tag) (refusal reason.PastEnd place tag) (part_length 1 bs) n fine ok in
    subst (λ m. m ≤ length bs) t.0 (leb-true (part_length 1 bs) (length bs) t.1)

module _ (newer : Bool) where
  first_part : (ds ds' : List Data) (d : Data) (p : ℕ) (bs : List ℕ) → d.prefix ≡ 1 → ds ≡ d ∷ ds' → parts_verdict newer (map data_view ds) p bs ≡ (rule (leb 1 (length bs)) reason.PastEnd p d.tag then (rule (leb (content_length 1 bs) d.longest) reason.TooMany p d.tag then (rule (leb (part_length 1 bs) (length bs)) reason.PastEnd p d.tag then parts_verdict newer (map data_view ds') (p + part_length 1 bs) (drop (part_length 1 bs) bs))))
  first_part ds ds' d p bs one e =
      ap (λ gs. parts_verdict newer (map data_view gs) p bs) e
      ∙ ap (λ k. parts_verdict newer (record { tag = d.tag; longest = d.longest; prefix = k } ∷ map data_view ds') p bs) one

  pub parts_more : (ds ds' : List Data) (d : Data) (p n : ℕ) (bs bs' : List ℕ) (r : Result ℕ Refusal) (all : Verdict) → d.prefix ≡ 1 → ds ≡ d ∷ ds' → r ≡ part_step d.tag d.longest p bs → r ≡ Ok n → bs' ≡ drop n bs → parts_verdict newer (map data_view ds) p bs ≡ all → parts_verdict newer (map data_view ds') (p + n) bs' ≡ all
  parts_more ds ds' d p n bs bs' r all one e is ok ebs whole =
      let next = parts_verdict newer (map data_view ds') (p + part_length 1 bs) (drop (part_length 1 bs) bs) in
      let t = told (leb 1 (length bs)) (leb (content_length 1 bs) d.longest) (leb (part_length 1 bs) (length bs)) (refusal reason.PastEnd p d.tag) (refusal reason.TooMany p d.tag) (refusal reason.PastEnd p d.tag) (part_length 1 bs) n next (sym is ∙ ok) in
      ap₂ (λ x y. parts_verdict newer (map data_view ds') (p + x) y) (sym t.0) (ebs ∙ ap (λ k. drop k bs) (sym t.0))
      ∙ sym t.2
      ∙ sym (first_part ds ds' d p bs one e)
      ∙ whole

  pub parts_refused : (ds ds' : List Data) (d : Data) (p : ℕ) (bs : List ℕ) (r : Result ℕ Refusal) (g : Refusal) (all : Verdict) → d.prefix ≡ 1 → ds ≡ d ∷ ds' → r ≡ part_step d.tag d.longest p bs → r ≡ Err g → parts_verdict newer (map data_view ds) p bs ≡ all → Err g ≡ all
  parts_refused ds ds' d p bs r g all one e is bad whole =
      let next = parts_verdict newer (map data_view ds') (p + part_length 1 bs) (drop (part_length 1 bs) bs) in
      sym (told_refused (leb 1 (length bs)) (leb (content_length 1 bs) d.longest) (leb (part_length 1 bs) (length bs)) (refusal reason.PastEnd p d.tag) (refusal reason.TooMany p d.tag) (refusal reason.PastEnd p d.tag) g (part_length 1 bs) next (sym is ∙ bad))
      ∙ sym (first_part ds ds' d p bs one e)
      ∙ whole
