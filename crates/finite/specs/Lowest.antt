-- The lowest number below n that passes a test, or n.
use Rattle.std.specs.Prelude.{◌≡◌, refl, Bool, true, false, cond, ◌⊎◌, ℕ, zero, suc, ◌<◌, ◌≤◌, T, ltb}
use Rattle.std.proofs.Common.{ap, subst, sym, ◌∙◌, inl, inr, ⊎_elim, le_of_suc-le-suc, not-suc-le-zero, eq-or-lt_of_le, arith, lt→ltb, ltb→lt, ltb-true, ltb-false}
use Rattle.finite.specs.Truth.{cond-true, cond-false}

unfoldable pub lowest : (ℕ → Bool) → ℕ → ℕ
lowest f zero = 0
lowest f (suc n) = cond (ltb (lowest f n) n) (lowest f n) (cond (f n) n (suc n))

-- where none below n passes, it is n
pub lowest-none : (f : ℕ → Bool) (n : ℕ) → ((k : ℕ) → k < n → T (f k) → ⊥) → lowest f n ≡ n
unfolding lowest
lowest-none f zero h = refl
lowest-none f (suc n) h =
    let e : lowest f n ≡ n = lowest-none f n (λ k l. h k (omega arith)) in
    cond-false (ltb (lowest f n) n) (lowest f n) (cond (f n) n (suc n))
    (λ t. let l = ltb→lt (lowest f n) n t in absurd (omega arith))
    ∙ cond-false (f n) n (suc n) (h n (omega arith))

-- where k passes and none below it does, it is k
pub lowest-is : (f : ℕ → Bool) (n k : ℕ) → k < n → ((j : ℕ) → j < k → T (f j) → ⊥) → T (f k) → lowest f n ≡ k
unfolding lowest
lowest-is f zero k l h t = absurd (not-suc-le-zero l)
lowest-is f (suc n) k l h t =
    ⊎_elim
    (λ e. let g : (j : ℕ) → j < n → T (f j) → ⊥ = λ j m. h j (omega arith) in
    let z : lowest f n ≡ n = lowest-none f n g in
    cond-false (ltb (lowest f n) n) (lowest f n) (cond (f n) n (suc n))
    (λ s. let l = ltb→lt (lowest f n) n s in absurd (omega arith))
    ∙ cond-true (f n) n (suc n) (subst (λ (m : ℕ). T (f m)) e t)
    ∙ sym e)
    (λ m. let z : lowest f n ≡ k = lowest-is f n k m h t in
    cond-true (ltb (lowest f n) n) (lowest f n) (cond (f n) n (suc n)) (lt→ltb (lowest f n) n (omega arith)) ∙ z)
    (eq-or-lt_of_le (le_of_suc-le-suc l))

-- no number that passes is lower
pub lowest-le : (f : ℕ → Bool) (n k : ℕ) → k < n → T (f k) → lowest f n ≤ k
unfolding lowest
lowest-le f zero k h t = absurd (not-suc-le-zero h)
lowest-le f (suc n) k h t =
    go (ltb (lowest f n) n) refl (f n) refl (eq-or-lt_of_le (le_of_suc-le-suc h)) (λ l. lowest-le f n k l t)
  where
    go : (a : Bool) → ltb (lowest f n) n ≡ a → (b : Bool) → f n ≡ b → (k ≡ n) ⊎ (k < n) → (k < n → lowest f n ≤ k)
        → cond a (lowest f n) (cond b n (suc n)) ≤ k
    go true p b q (inl e) below = omega (arith, ltb-true (lowest f n) n p)
    go true p b q (inr l) below = below l
    go false p true q (inl e) below = omega arith
    go false p false q (inl e) below = absurd (subst T (ap f e ∙ q) t)
    go false p b q (inr l) below = absurd (omega (arith, ltb-false (lowest f n) n p, below l))

-- below n it passes
pub lowest-passes : (f : ℕ → Bool) (n : ℕ) → lowest f n < n → T (f (lowest f n))
unfolding lowest
lowest-passes f zero h = absurd (not-suc-le-zero h)
lowest-passes f (suc n) h = go (ltb (lowest f n) n) refl (f n) refl (λ l. lowest-passes f n l) h
  where
    go : (a : Bool) → ltb (lowest f n) n ≡ a → (b : Bool) → f n ≡ b → (lowest f n < n → T (f (lowest f n)))
        → cond a (lowest f n) (cond b n (suc n)) < suc n → T (f (cond a (lowest f n) (cond b n (suc n))))
    go true p b q below h = below (ltb-true (lowest f n) n p)
    go false p true q below h = subst T (sym q) tt
    go false p false q below h = absurd (omega arith)
