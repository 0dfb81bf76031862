-- A sum over the squares of which three at most count.
use Rattle.std.specs.Prelude.{◌≡◌, refl, Bool, true, false, cond, ℕ, zero, suc, ◌+◌, ◌≤◌, ◌<◌, eqb, length}
use Rattle.std.proofs.Common.{sym, ap, ap₂, ◌∙◌, ⊎_elim, arith, length-append, eqb-true}
use mathlib.Core.List.{List, [], ◌∷◌, flat_map}
use Rattle.std.proofs.lemmas.Bool.{eqb-false}
use Rattle.finite.specs.Truth.{le-or-lt}
use Rattle.finite.specs.Numbers.{numbers}
use Rattle.board.specs.Sets.{squares}
use Rattle.limit.proofs.laws.Sums.{total, total-add, only, total-only}

pub length-total : {A B : Type 0} (f : A → List B) (l : List A) → length (flat_map f l) ≡ total (λ x. length (f x)) l
unfolding flat_map total
length-total f [] = refl
length-total f (x ∷ l) = length-append (f x) (flat_map f l) ∙ ap (λ (n : ℕ). length (f x) + n) (length-total f l)

total-same : {A : Type 0} (g h : A → ℕ) (l : List A) → ((x : A) → g x ≡ h x) → total g l ≡ total h l
unfolding total
total-same g h [] e = refl
total-same g h (x ∷ l) e = ap₂ ◌+◌ (e x) (total-same g h l e)

at_least : (k n c t : ℕ) → t ≤ k → k < t + c → n ≤ total (only k n) (numbers c t)
unfolding total numbers
at_least k n zero t l h = absurd (omega arith)
at_least k n (suc c) t l h = go (eqb t k) refl (λ q. at_least k n c (suc t) q (omega arith))
  where
    go : (b : Bool) → eqb t k ≡ b → (suc t ≤ k → n ≤ total (only k n) (numbers c (suc t)))
        → n ≤ cond b n 0 + total (only k n) (numbers c (suc t))
    go true e more = omega arith
    go false e more =
        let l = more (⊎_elim (λ q. absurd (eqb-false t k e (omega arith))) (λ q. q) (le-or-lt k t)) in omega arith

-- one that counts, unless it is off the board
one-of : (k n : ℕ) → (64 ≤ k → n ≡ 0) → total (only k n) squares ≡ n
unfolding squares
one-of k n z =
    ⊎_elim (λ h. omega (arith, total-only k n, z h))
    (λ h. omega (arith, total-only k n, at_least k n 64 0 (omega arith) (omega arith)))
    (le-or-lt 64 k)

module _ (f : ℕ → ℕ) (k a c : ℕ) (others : (x : ℕ) → (x ≡ k → ⊥) → (x ≡ a → ⊥) → (x ≡ c → ⊥) → f x ≡ 0)
    (off : (x : ℕ) → 64 ≤ x → f x ≡ 0) (ak : a ≡ k → f a ≡ 0) (ck : c ≡ k → f c ≡ 0) (ca : c ≡ a → f c ≡ 0) where
  by_three : (x : ℕ) → f x ≡ only k (f k) x + (only a (f a) x + only c (f c) x)
  by_three x = go (eqb x k) (eqb x a) (eqb x c) refl refl refl
    where
      go : (i j l : Bool) → eqb x k ≡ i → eqb x a ≡ j → eqb x c ≡ l
          → f x ≡ cond i (f k) 0 + (cond j (f a) 0 + cond l (f c) 0)
      go false false false p q r = others x (eqb-false x k p) (eqb-false x a q) (eqb-false x c r)
      go true false false p q r = omega (arith, ap f (eqb-true x k p))
      go false true false p q r = omega (arith, ap f (eqb-true x a q))
      go false false true p q r = omega (arith, ap f (eqb-true x c r))
      go true true false p q r =
          let u = eqb-true x k p in let v = eqb-true x a q in
          omega (arith, ap f u, ap f v, ak (sym v ∙ u))
      go true false true p q r =
          let u = eqb-true x k p in let v = eqb-true x c r in
          omega (arith, ap f u, ap f v, ck (sym v ∙ u))
      go false true true p q r =
          let u = eqb-true x a q in let v = eqb-true x c r in
          omega (arith, ap f u, ap f v, ca (sym v ∙ u))
      go true true true p q r =
          let u = eqb-true x k p in let v = eqb-true x a q in let w = eqb-true x c r in
          omega (arith, ap f u, ap f v, ap f w, ak (sym v ∙ u))

  pub three-squares : total f squares ≡ f k + (f a + f c)
  three-squares =
      total-same f (λ x. only k (f k) x + (only a (f a) x + only c (f c) x)) squares by_three
      ∙ total-add (only k (f k)) (λ x. only a (f a) x + only c (f c) x) squares
      ∙ ap₂ ◌+◌ (one-of k (f k) (off k))
      (total-add (only a (f a)) (only c (f c)) squares ∙ ap₂ ◌+◌ (one-of a (f a) (off a)) (one-of c (f c) (off c)))
