-- Boolean tests as facts: a test that passes is a proof of `T`, and back.
use Rattle.std.specs.Prelude.{◌≡◌, refl, ◌⊎◌, Bool, true, false, not, ◌&&◌, ◌||◌, cond, ℕ, ◌≤◌, ◌<◌, T, leb, eqb}
use Rattle.std.proofs.Common.{sym, subst, inl, inr, leb→le, eqb→eq}
use Rattle.std.specs.Bool.{beq}
use Rattle.std.proofs.Math.Dec.{nleb→lt, eqb_refl}

-- a test passes or fails, kept as a fact
pub decided : (b : Bool) → T b ⊎ T (not b)
decided true = inl tt
decided false = inr tt

-- a claim by whether a test passes
pub by-test {ℓ} : {A : Type ℓ} (b : Bool) → (T b → A) → ((T b → ⊥) → A) → A
by-test true f g = f tt
by-test false f g = g (λ t. t)

pub and_left : (a b : Bool) → T (a && b) → T a
and_left true b t = tt
and_left false b t = t

pub and_right : (a b : Bool) → T (a && b) → T b
and_right true b t = t
and_right false b t = absurd t

pub and_both : (a b : Bool) → T a → T b → T (a && b)
and_both true b s t = t
and_both false b s t = s

pub or_left : (a b : Bool) → T a → T (a || b)
or_left true b t = tt
or_left false b t = absurd t

pub or_right : (a b : Bool) → T b → T (a || b)
or_right true b t = tt
or_right false b t = t

pub or_cases : (a b : Bool) → T (a || b) → T a ⊎ T b
or_cases true b t = inl tt
or_cases false b t = inr t

-- a test as an equation, and back
pub true_of : {b : Bool} → T b → b ≡ true
true_of {b = true} t = refl
true_of {b = false} t = absurd t

pub of-true : {b : Bool} → b ≡ true → T b
of-true e = subst T (sym e) tt

pub false_of : {b : Bool} → T (not b) → b ≡ false
false_of {b = true} t = absurd t
false_of {b = false} t = refl

pub fails : (b : Bool) → (T b → ⊥) → b ≡ false
fails true f = absurd (f tt)
fails false f = refl

pub refuted : {b : Bool} → b ≡ false → T b → ⊥
refuted e t = subst T e t

pub true-not-false : {b : Bool} → b ≡ true → b ≡ false → ⊥
true-not-false {b} p q = let z : true ≡ false = cc in subst T z tt

-- two tests that pass in the same cases are equal
pub same_test : (a b : Bool) → (T a → T b) → (T b → T a) → a ≡ b
same_test true true f g = refl
same_test true false f g = absurd (f tt)
same_test false true f g = absurd (g tt)
same_test false false f g = refl

pub same_answer : (a b : Bool) → T (beq a b) → a ≡ b
same_answer true true t = refl
same_answer true false t = absurd t
same_answer false true t = absurd t
same_answer false false t = refl

pub eqb-sym : (m n : ℕ) → eqb m n ≡ eqb n m
eqb-sym m n = same_test (eqb m n) (eqb n m) (λ t. rw (eqb→eq m n t) (eqb_refl n)) (λ t. rw (eqb→eq n m t) (eqb_refl m))

-- two numbers are in order one way or the other
pub le-or-lt : (m n : ℕ) → (m ≤ n) ⊎ (n < m)
le-or-lt m n = go (decided (leb m n))
  where
    go : T (leb m n) ⊎ T (not (leb m n)) → (m ≤ n) ⊎ (n < m)
    go (inl t) = inl (leb→le m n t)
    go (inr t) = inr (nleb→lt m n t)

-- a test that passes wherever another does
abbrev pub implies : Bool → Bool → Bool
implies true b = b
implies false b = true

pub implied : (a b : Bool) → T (implies a b) → T a → T b
implied true b t s = t
implied false b t s = absurd s

pub cond-true {ℓ} : {A : Type ℓ} (b : Bool) (x y : A) → T b → cond b x y ≡ x
cond-true true x y t = refl
cond-true false x y t = absurd t

pub cond-false {ℓ} : {A : Type ℓ} (b : Bool) (x y : A) → (T b → ⊥) → cond b x y ≡ y
cond-false true x y f = absurd (f tt)
cond-false false x y f = refl
