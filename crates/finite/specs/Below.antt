-- A Boolean test over every number below a bound, which the checker computes, and the law that turns it into a fact at each.
use Rattle.std.specs.Prelude.{◌≡◌, refl, Bool, true, false, not, ◌&&◌, ℕ, zero, suc, ◌<◌, T}
use Rattle.std.proofs.Common.{subst, sym, ⊎_elim, le_of_suc-le-suc, not-suc-le-zero, eq-or-lt_of_le, arith}
use Rattle.finite.specs.Truth.{and_left, and_right}

-- f passes at every number below n
unfoldable pub all_below : (ℕ → Bool) → ℕ → Bool
all_below f zero = true
all_below f (suc n) = f n && all_below f n

pub below : (f : ℕ → Bool) (n : ℕ) → T (all_below f n) → (k : ℕ) → k < n → T (f k)
unfolding all_below
below f zero t k h = absurd (not-suc-le-zero h)
below f (suc n) t k h =
    ⊎_elim (λ e. subst (λ (m : ℕ). T (f m)) (sym e) (and_left (f n) (all_below f n) t))
    (λ l. below f n (and_right (f n) (all_below f n) t) k l)
    (eq-or-lt_of_le (le_of_suc-le-suc h))

-- the same over two and over three numbers
unfoldable pub all_below2 : (ℕ → ℕ → Bool) → ℕ → ℕ → Bool
all_below2 f a b = all_below (λ i. all_below (f i) b) a

pub below2 : (f : ℕ → ℕ → Bool) (a b : ℕ) → T (all_below2 f a b) → (i j : ℕ) → i < a → j < b → T (f i j)
unfolding all_below2
below2 f a b t i j hi hj = below (f i) b (below (λ k. all_below (f k) b) a t i hi) j hj

unfoldable pub all_below3 : (ℕ → ℕ → ℕ → Bool) → ℕ → ℕ → ℕ → Bool
all_below3 f a b c = all_below (λ i. all_below2 (f i) b c) a

pub below3 : (f : ℕ → ℕ → ℕ → Bool) (a b c : ℕ) → T (all_below3 f a b c) → (i j k : ℕ) → i < a → j < b → k < c
    → T (f i j k)
unfolding all_below3
below3 f a b c t i j k hi hj hk = below2 (f i) b c (below (λ l. all_below2 (f l) b c) a t i hi) j k hj hk

-- one below n fails where not all pass
pub fails-below : (f : ℕ → Bool) (n : ℕ) → T (not (all_below f n)) → (k : ℕ) × (k < n) × T (not (f k))
unfolding all_below
fails-below f zero t = absurd t
fails-below f (suc n) t = go (f n) refl (λ (s : T (not (all_below f n))). fails-below f n s) t
  where
    go : (b : Bool) → f n ≡ b → (T (not (all_below f n)) → (k : ℕ) × (k < n) × T (not (f k)))
        → T (not (b && all_below f n)) → (k : ℕ) × (k < suc n) × T (not (f k))
    go true e rest s = let r = rest s in (r.0, omega (arith, r.1), r.2)
    go false e rest s = (n, omega arith, subst (λ (b : Bool). T (not b)) (sym e) tt)
