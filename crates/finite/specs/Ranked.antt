-- The numbers that pass a test, numbered from 0 in rising order: `rank ok k` of them lie below k. Laws of that numbering for any test, and
-- a table of it checked in a single pass.
use Rattle.std.specs.Prelude.{◌≡◌, refl, Bool, true, false, cond, ◌&&◌, ◌⊎◌, ℕ, zero, suc, ◌+◌, ◌*◌, ◌<◌, ◌≤◌, T, eqb, ltb}
use Rattle.std.proofs.Common.{ap, ap₂, subst, sym, ◌∙◌, ⊎_elim, le_of_suc-le-suc, not-suc-le-zero, eq-or-lt_of_le, add-zero, add-suc, arith, add-one, eqb→eq, ltb→lt, nltb→le}
use Rattle.std.proofs.Math.Dec.{eqb_refl, not_T}
use Rattle.finite.specs.Truth.{and_left, and_right, and_both, by-test, cond-true, cond-false, true_of, fails}

-- how many of the numbers below k pass
unfoldable pub rank : (ℕ → Bool) → ℕ → ℕ
rank ok zero = 0
rank ok (suc k) = cond (ok k) (suc (rank ok k)) (rank ok k)

-- the number below n that passes and has q such numbers below it; 0 where there is none
unfoldable pub select : (ℕ → Bool) → ℕ → ℕ → ℕ
select ok zero q = 0
select ok (suc n) q = cond (ok n && eqb (rank ok n) q) n (select ok n q)

-- a number that passes is counted in every larger rank
step : (b : Bool) (r : ℕ) → r ≤ cond b (suc r) r
step true r = omega arith
step false r = omega arith

taken : (b : Bool) (r : ℕ) → T b → r < cond b (suc r) r
taken true r t = omega arith
taken false r t = absurd t

pub rank-grows : (ok : ℕ → Bool) (k n : ℕ) → k ≤ n → rank ok k ≤ rank ok n
unfolding rank
rank-grows ok k zero h = let e : k ≡ 0 = omega arith in rw e (omega arith)
rank-grows ok k (suc n) h =
    ⊎_elim (λ e. rw e (omega arith))
    (λ l. omega (arith, rank-grows ok k n (le_of_suc-le-suc l), step (ok n) (rank ok n)))
    (eq-or-lt_of_le h)

pub rank_rises : (ok : ℕ → Bool) (k n : ℕ) → T (ok k) → k < n → rank ok k < rank ok n
unfolding rank
rank_rises ok k n t h = omega (arith, rank-grows ok (suc k) n h, taken (ok k) (rank ok k) t)

-- two numbers that pass and have one rank are one number
pub rank-one : (ok : ℕ → Bool) (k n : ℕ) → T (ok k) → T (ok n) → rank ok k ≡ rank ok n → k ≡ n
rank-one ok k n s t e =
    by-test (ltb k n) (λ h. absurd (let z = rank_rises ok k n s (ltb→lt k n h) in omega arith))
    (λ f. by-test (ltb n k) (λ h. absurd (let z = rank_rises ok n k t (ltb→lt n k h) in omega arith))
    (λ g. let l : n ≤ k = nltb→le k n (not_T (ltb k n) f) in
    let m : k ≤ n = nltb→le n k (not_T (ltb n k) g) in
    omega arith))

-- a number that passes is the one selected by its rank
pub select-rank : (ok : ℕ → Bool) (n k : ℕ) → T (ok k) → k < n → select ok n (rank ok k) ≡ k
unfolding select
select-rank ok zero k t h = absurd (not-suc-le-zero h)
select-rank ok (suc n) k t h =
    by-test (ok n && eqb (rank ok n) (rank ok k))
    (λ p. cond-true (ok n && eqb (rank ok n) (rank ok k)) n (select ok n (rank ok k)) p
    ∙ rank-one ok n k (and_left (ok n) (eqb (rank ok n) (rank ok k)) p) t
    (eqb→eq (rank ok n) (rank ok k) (and_right (ok n) (eqb (rank ok n) (rank ok k)) p)))
    (λ f. cond-false (ok n && eqb (rank ok n) (rank ok k)) n (select ok n (rank ok k)) f
    ∙ select-rank ok n k t
    (⊎_elim (λ e. absurd
    (f (subst (λ (m : ℕ). T (ok m && eqb (rank ok m) (rank ok k))) e
    (and_both (ok k) (eqb (rank ok k) (rank ok k)) t (eqb_refl (rank ok k))))))
    (λ l. l) (eq-or-lt_of_le (le_of_suc-le-suc h))))

-- below the count of those that pass, the selected number passes and has that rank
pub record Selected (ok : ℕ → Bool) (n q k : ℕ) : Type 0 where
  pub passes : T (ok k)
  pub ranked : rank ok k ≡ q
  pub under : k < n

-- the rank just past n where n is not the number selected
left : (b : Bool) (r q : ℕ) → q < cond b (suc r) r → (T (b && eqb r q) → ⊥) → q < r
left true r q h f =
    ⊎_elim (λ e. absurd (f (subst (λ (m : ℕ). T (eqb r m)) (sym e) (eqb_refl r)))) (λ l. l)
    (eq-or-lt_of_le (le_of_suc-le-suc h))
left false r q h f = h

pub selected : (ok : ℕ → Bool) (n q : ℕ) → q < rank ok n → Selected ok n q (select ok n q)
unfolding rank select
selected ok zero q h = absurd (not-suc-le-zero h)
selected ok (suc n) q h =
    by-test (ok n && eqb (rank ok n) q)
    (λ p. rw (cond-true (ok n && eqb (rank ok n) q) n (select ok n q) p)
    (record {
      passes = and_left (ok n) (eqb (rank ok n) q) p;
      ranked = eqb→eq (rank ok n) q (and_right (ok n) (eqb (rank ok n) q) p);
      under = omega arith;
    }))
    (λ f. rw (cond-false (ok n && eqb (rank ok n) q) n (select ok n q) f)
    (let s = selected ok n q (left (ok n) (rank ok n) q h f) in
    record { passes = s.passes; ranked = s.ranked; under = omega arith }))

-- from that count on, none is selected
pub select-none : (ok : ℕ → Bool) (n q : ℕ) → rank ok n ≤ q → select ok n q ≡ 0
unfolding rank select
select-none ok zero q h = refl
select-none ok (suc n) q h =
    let g = step (ok n) (rank ok n) in
    cond-false (ok n && eqb (rank ok n) q) n (select ok n q)
    (λ p. let e = eqb→eq (rank ok n) q (and_right (ok n) (eqb (rank ok n) q) p) in
    let t = taken (ok n) (rank ok n) (and_left (ok n) (eqb (rank ok n) q) p) in omega arith)
    ∙ select-none ok n q (omega arith)

-- one pass over the numbers below n, with the rank so far carried along: f passes at each number and its rank
unfoldable pub pass : (ℕ → Bool) → (ℕ → ℕ → Bool) → ℕ → ℕ → ℕ → Bool
pass ok f zero k c = true
pass ok f (suc n) k c = f k c && pass ok f n (suc k) (cond (ok k) (suc c) c)

pass-from : (ok : ℕ → Bool) (f : ℕ → ℕ → Bool) (n i : ℕ) → T (pass ok f n i (rank ok i)) → (k : ℕ) → i ≤ k → k < i + n
    → T (f k (rank ok k))
unfolding pass rank
pass-from ok f zero i t k l h = absurd (omega arith)
pass-from ok f (suc n) i t k l h =
    ⊎_elim (λ e. subst (λ (m : ℕ). T (f m (rank ok m))) e
    (and_left (f i (rank ok i)) (pass ok f n (suc i) (rank ok (suc i))) t))
    (λ m. pass-from ok f n (suc i) (and_right (f i (rank ok i)) (pass ok f n (suc i) (rank ok (suc i))) t) k m
    (omega arith))
    (eq-or-lt_of_le l)

pub passed : (ok : ℕ → Bool) (f : ℕ → ℕ → Bool) (n : ℕ) → T (pass ok f n 0 0) → (k : ℕ) → k < n → T (f k (rank ok k))
unfolding rank
passed ok f n t k h = pass-from ok f n 0 t k (omega arith) (omega arith)

-- two tests that agree below n count alike
pub rank_same : (f g : ℕ → Bool) (n : ℕ) → ((k : ℕ) → k < n → f k ≡ g k) → rank f n ≡ rank g n
unfolding rank
rank_same f g zero e = refl
rank_same f g (suc n) e =
    ap₂ (λ (b : Bool) (r : ℕ). cond b (suc r) r) (e n (omega arith)) (rank_same f g n (λ k h. e k (omega arith)))

-- a sum over the numbers below n, and over those that pass
unfoldable pub sum : (ℕ → ℕ) → ℕ → ℕ
sum F zero = 0
sum F (suc n) = F n + sum F n

unfoldable pub sum_of : (ℕ → Bool) → (ℕ → ℕ) → ℕ → ℕ
sum_of ok F zero = 0
sum_of ok F (suc n) = cond (ok n) (F n + sum_of ok F n) (sum_of ok F n)

pub sum_same : (F G : ℕ → ℕ) (n : ℕ) → ((k : ℕ) → k < n → F k ≡ G k) → sum F n ≡ sum G n
unfolding sum
sum_same F G zero e = refl
sum_same F G (suc n) e = ap₂ ◌+◌ (e n (omega arith)) (sum_same F G n (λ k h. e k (omega arith)))

-- the sum over those that pass is the sum over their ranks
pub sum-ranks : (ok : ℕ → Bool) (F : ℕ → ℕ) (m n : ℕ) → n ≤ m → sum_of ok F n ≡ sum (λ q. F (select ok m q)) (rank ok n)
unfolding sum sum_of rank
sum-ranks ok F m zero h = refl
sum-ranks ok F m (suc n) h =
    by-test (ok n)
    (λ t. rw (true_of {b = ok n} t)
    (rw (select-rank ok m n t h) (ap (λ (s : ℕ). F n + s) (sum-ranks ok F m n (omega arith)))))
    (λ f. rw (fails (ok n) f) (sum-ranks ok F m n (omega arith)))

-- a count in two parts, and in blocks of 64
joined : (c : Bool) (x y z : ℕ) → x ≡ y + z → cond c (suc x) x ≡ cond c (suc y) y + z
joined true x y z e = omega arith
joined false x y z e = e

pub rank-add : (f : ℕ → Bool) (a b : ℕ) → rank f (b + a) ≡ rank (λ k. f (b + k)) a + rank f b
unfolding rank
rank-add f zero b = rw (add-zero b) (omega arith)
rank-add f (suc a) b =
    rw (add-suc b a) (joined (f (b + a)) (rank f (b + a)) (rank (λ k. f (b + k)) a) (rank f b) (rank-add f a b))

pub rank-blocks : (f : ℕ → Bool) (m : ℕ) → rank f (m * 64) ≡ sum (λ q. rank (λ a. f (q * 64 + a)) 64) m
unfolding rank sum
rank-blocks f zero = refl
rank-blocks f (suc m) =
    ap (rank f) (let e : suc m * 64 ≡ m * 64 + 64 = omega arith in e)
    ∙ rank-add f 64 (m * 64)
    ∙ ap (λ (s : ℕ). rank (λ a. f (m * 64 + a)) 64 + s) (rank-blocks f m)

-- a count is at most what is counted, and grows by one number as its test says
pub rank_most : (f : ℕ → Bool) (n : ℕ) → rank f n ≤ n
unfolding rank
rank_most f zero = omega arith
rank_most f (suc n) = omega (arith, rank_most f n, most (f n) (rank f n))
  where
    most : (b : Bool) (r : ℕ) → cond b (suc r) r ≤ suc r
    most true r = omega arith
    most false r = omega arith

pub rank-next : (f : ℕ → Bool) (n : ℕ) (b : Bool) → f n ≡ b → rank f (n + 1) ≡ cond b (rank f n + 1) (rank f n)
unfolding rank
rank-next f n b e = ap (rank f) (add-one n) ∙ ap (λ (x : Bool). cond x (suc (rank f n)) (rank f n)) e
    ∙ ap (λ (m : ℕ). cond b m (rank f n)) (sym (add-one (rank f n)))
