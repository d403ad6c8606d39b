-- Step after step by a relation.

-- from one to another by any number of steps
pub data Steps {A : Type 0} (R : A → A → Type 0) : A → A → Type 0 where
  over : {a : A} → Steps R a a
  more : {a b c : A} → R a b → Steps R b c → Steps R a c

pub steps_on : {A : Type 0} {R : A → A → Type 0} {a b c : A} → Steps R a b → Steps R b c → Steps R a c
steps_on over q = q
steps_on (more r p) q = more r (steps_on p q)

-- steps inside of something are steps of it
pub steps_within : {A B : Type 0} {R : A → A → Type 0} {S : B → B → Type 0} (f : A → B) → ((x y : A) → R x y → S (f x) (f y)) → {a b : A} → Steps R a b → Steps S (f a) (f b)
steps_within f h over = over
steps_within f h (more {a} {b} r p) = more (h a b r) (steps_within f h p)
