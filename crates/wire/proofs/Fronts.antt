-- The front of a stream stands as the stream grows.
use Rattle.std.proofs.Common.{◌≡◌, ℕ, ◌+◌, ◌-◌, ◌≤◌, Bool, true, false, cond, eqb, leb, List, ◌++◌, length, take, drop, Ok, Err, Result, refl, ap, ◌∙◌, ap₂, ⊎_elim, arith, length-append, length-drop}
use Rattle.std.proofs.lemmas.List.{take-append-le, drop-append-le, take_all, drop_all, take-append-drop, length-take-le}
use Rattle.std.proofs.lemmas.Bool.{le-leb, lt-leb, leb-true, leb-false, and_parts, cond_both}
use Rattle.std.proofs.lemmas.Bool.Decides.{leb_tells}
use Rattle.wire.specs.declared.refusal.Reason.TheVariants as reason
use Rattle.wire.specs.declared.refusal.Refusal.{Refusal}
use Rattle.wire.specs.Numbers.{le_value}
use Rattle.wire.specs.Refusals.{refusal}
use Rattle.wire.specs.Streams.{Front, missing, whole, first, front_by, front_of, frame_length, stated_length, stated_encoding, Grown, FrontStandsAsTheStreamGrows, MakesUp}

first_grows : (n : ℕ) (s more : List ℕ) → Grown (Ok (first n s)) s more (Ok (first n (s ++ more)))
first_grows n s more =
    let long : length (s ++ more) ≡ length s + length more = length-append s more in
    ⊎_elim
    (λ a.
    let h = a.1 in
    let still : leb n (length (s ++ more)) ≡ true = le-leb n (length (s ++ more)) (omega arith) in
    rw a.0 (rw still (ap₂ (λ x y. Ok (whole x y)) (take-append-le n s more h) (drop-append-le n s more h))))
    (λ a.
    let h = a.1 in
    rw a.0 (
      (λ fewer.
          let still : leb n (length (s ++ more)) ≡ false = lt-leb n (length (s ++ more)) (omega arith) in
          let left : n - length (s ++ more) ≡ n - length s - length more = omega arith in
          rw still (ap (λ k. Ok (missing k)) left)),
      (λ _ enough.
          let there : leb n (length (s ++ more)) ≡ true = le-leb n (length (s ++ more)) (omega arith) in
          rw there (ap₂ (λ x y. Ok (whole x y)) (take_all n (s ++ more) (omega arith)) (drop_all n (s ++ more) (omega arith)))),
    ))
    (leb_tells n (length s))

-- a test that does not look at the stream's end refuses before and after
tested_grows : (b : Bool) (x y : Result Front Refusal) (e : Refusal) (s more : List ℕ) → Grown x s more y → Grown (cond b x (Err e)) s more (cond b y (Err e))
tested_grows true x y e s more h = h
tested_grows false x y e s more h = refl

by_grows : (n encoding : ℕ) (s more : List ℕ) → Grown (front_by n encoding s) s more (front_by n encoding (s ++ more))
by_grows n encoding s more =
    tested_grows (eqb encoding 0xEB50) _ _ (refusal reason.Encoding 2 0) s more
    (tested_grows (frame_length n) (Ok (first n s)) (Ok (first n (s ++ more))) (refusal reason.FrameSize 0 0) s more (first_grows n s more))

pub front_grows : (s : List ℕ) → FrontStandsAsTheStreamGrows s
front_grows s more =
    let long : length (s ++ more) ≡ length s + length more = length-append s more in
    ⊎_elim
    (λ a.
    let h = a.1 in
    let still : leb 4 (length (s ++ more)) ≡ true = le-leb 4 (length (s ++ more)) (omega arith) in
    let n : stated_length (s ++ more) ≡ stated_length s = ap le_value (take-append-le 2 s more (omega arith)) in
    let e : stated_encoding (s ++ more) ≡ stated_encoding s =
    ap (λ t. le_value (take 2 t)) (drop-append-le 2 s more (omega arith))
    ∙ ap le_value (take-append-le 2 (drop 2 s) more (simp length-drop (omega arith))) in
    rw a.0 (rw (still, n, e) (by_grows (stated_length s) (stated_encoding s) s more)))
    (λ a.
    let h = a.1 in
    rw a.0 (
      (λ fewer.
          let still : leb 4 (length (s ++ more)) ≡ false = lt-leb 4 (length (s ++ more)) (omega arith) in
          let left : 4 - length (s ++ more) ≡ 4 - length s - length more = omega arith in
          rw still (ap (λ k. Ok (missing k)) left)),
      (λ known _. absurd (omega arith)),
    ))
    (leb_tells 4 (length s))

-- what a front holds makes up the stream
first_makes_up : (n : ℕ) (s : List ℕ) → frame_length n ≡ true → MakesUp (Ok (first n s)) s
first_makes_up n s h =
    let bounds = and_parts (leb 12 n) (leb n 16384) h in
    let low : 12 ≤ n = leb-true 12 n bounds.0 in
    let high : n ≤ 16384 = leb-true n 16384 bounds.1 in
    ⊎_elim
    (λ a.
    let long : length (take n s) ≡ n = length-take-le n s a.1 in
    rw a.0 (take-append-drop n s, omega arith, omega arith))
    (λ a. let h = a.1 in rw a.0 (omega arith))
    (leb_tells n (length s))

pub front_makes_up : (s : List ℕ) → MakesUp (front_of s) s
front_makes_up s =
    cond_both (leb 4 (length s)) (front_by (stated_length s) (stated_encoding s) s) (Ok (missing (4 - length s))) (λ x. MakesUp x s)
    (λ _. cond_both (eqb (stated_encoding s) 0xEB50) _ (Err (refusal reason.Encoding 2 0)) (λ x. MakesUp x s)
    (λ _. cond_both (frame_length (stated_length s)) (Ok (first (stated_length s) s)) (Err (refusal reason.FrameSize 0 0)) (λ x. MakesUp x s) (first_makes_up (stated_length s) s) (λ _. tt))
    (λ _. tt))
    (λ e. let short = leb-false 4 (length s) e in omega arith)
