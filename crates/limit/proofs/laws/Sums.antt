-- Sums over lists, and what the squares that pass a test weigh.
use Rattle.std.specs.Prelude.{◌≡◌, refl, Bool, true, false, cond, ◌||◌, ℕ, zero, suc, ◌+◌, ◌≤◌, ◌<◌, T, eqb, length}
use mathlib.Core.List.{List, [], ◌∷◌, flat_map}
use Rattle.std.proofs.Common.{le_trans, arith, length-append, eqb-true, ne_eqb}
use Rattle.finite.specs.Members.{any}
use Rattle.finite.specs.Filter.{filter, keep}
use Rattle.finite.specs.Numbers.{numbers}
use Rattle.board.specs.Sets.{squares}

-- the sum of g over a list
unfoldable pub total : {A : Type 0} → (A → ℕ) → List A → ℕ
total g [] = 0
total g (x ∷ l) = g x + total g l

pub total-add : {A : Type 0} (g h : A → ℕ) (l : List A) → total (λ x. g x + h x) l ≡ total g l + total h l
unfolding total
total-add g h [] = refl
total-add g h (x ∷ l) = omega (arith, total-add g h l)

pub total-none : {A : Type 0} (l : List A) → total (λ (x : A). 0) l ≡ 0
unfolding total
total-none [] = refl
total-none (x ∷ l) = omega (arith, total-none l)

pub total-fewer : {A : Type 0} (g h : A → ℕ) (l : List A) → ((x : A) → g x ≤ h x) → total g l ≤ total h l
unfolding total
total-fewer g h [] k = omega arith
total-fewer g h (x ∷ l) k = omega (arith, k x, total-fewer g h l k)

pub length-flat_map : {A B : Type 0} (f : A → List B) (g : A → ℕ) (l : List A) → ((x : A) → length (f x) ≤ g x)
    → length (flat_map f l) ≤ total g l
unfolding flat_map total
length-flat_map f g [] h = omega arith
length-flat_map f g (x ∷ l) h = simp length-append (omega (arith, h x, length-flat_map f g l h))

-- ---- a sum over numbers of which one at most counts

-- n at k, 0 elsewhere
abbrev pub only : ℕ → ℕ → ℕ → ℕ
only k n x = cond (eqb x k) n 0

past : (k n c t : ℕ) → k < t → total (only k n) (numbers c t) ≡ 0
unfolding total numbers
past k n zero t h = refl
past k n (suc c) t h = rw (ne_eqb t k (λ (e : t ≡ k). omega arith), past k n c (suc t) (omega arith))

only-numbers : (k n c t : ℕ) → total (only k n) (numbers c t) ≤ n
unfolding total numbers
only-numbers k n zero t = omega arith
only-numbers k n (suc c) t = go (eqb t k) refl (only-numbers k n c (suc t))
  where
    go : (b : Bool) → eqb t k ≡ b → total (only k n) (numbers c (suc t)) ≤ n
        → cond b n 0 + total (only k n) (numbers c (suc t)) ≤ n
    go true e h = let q : t ≡ k = eqb-true t k e in omega (arith, past k n c (suc t) (omega arith))
    go false e h = omega arith

pub total-only : (k n : ℕ) → total (only k n) squares ≤ n
unfolding squares
total-only k n = only-numbers k n 64 0

-- ---- what the squares that pass a test weigh

pub total-filter : (g : ℕ → ℕ) (p : ℕ → Bool) (l : List ℕ) → total g (filter p l) ≡ total (λ x. cond (p x) (g x) 0) l
unfolding filter total
total-filter g p [] = refl
total-filter g p (x ∷ l) = go (p x) (total-filter g p l)
  where
    go : (b : Bool) → total g (filter p l) ≡ total (λ x. cond (p x) (g x) 0) l
        → total g (keep b x (filter p l)) ≡ cond b (g x) 0 + total (λ x. cond (p x) (g x) 0) l
    go true e = omega arith
    go false e = omega arith

-- each square by itself: with g 1 everywhere it is their number
abbrev pub weighed : (ℕ → ℕ) → (ℕ → Bool) → ℕ
weighed g p = total (λ t. cond (p t) (g t) 0) squares

module _ (g : ℕ → ℕ) where
  pub weighed-one : (u : ℕ) → weighed g (λ t. eqb t u) ≤ g u
  weighed-one u =
      le_trans (total-fewer (λ t. cond (eqb t u) (g t) 0) (only u (g u)) squares (λ t. go t (eqb t u) refl))
      (total-only u (g u))
    where
      go : (t : ℕ) (b : Bool) → eqb t u ≡ b → cond b (g t) 0 ≤ cond b (g u) 0
      go t true e = rw (eqb-true t u e) (omega arith)
      go t false e = omega arith

  pub weighed-none : (p : ℕ → Bool) (n : ℕ) → ((t : ℕ) → p t ≡ false) → weighed g p ≤ n
  weighed-none p n h =
      le_trans (total-fewer (λ t. cond (p t) (g t) 0) (λ t. 0) squares (λ t. rw (h t) (omega arith)))
      (omega (arith, total-none squares))

  pub weighed-fewer : (p q : ℕ → Bool) → ((t : ℕ) → T (p t) → T (q t)) → weighed g p ≤ weighed g q
  weighed-fewer p q h =
      total-fewer (λ t. cond (p t) (g t) 0) (λ t. cond (q t) (g t) 0) squares (λ t. go (g t) (p t) (q t) (h t))
    where
      go : (n : ℕ) (a b : Bool) → (T a → T b) → cond a n 0 ≤ cond b n 0
      go n true true f = omega arith
      go n true false f = absurd (f tt)
      go n false b f = omega arith

  pub weighed-or : (p q : ℕ → Bool) → weighed g (λ t. p t || q t) ≤ weighed g p + weighed g q
  weighed-or p q =
      le_trans
      (total-fewer (λ t. cond (p t || q t) (g t) 0) (λ t. cond (p t) (g t) 0 + cond (q t) (g t) 0) squares
      (λ t. go (g t) (p t) (q t)))
      (omega (arith, total-add (λ t. cond (p t) (g t) 0) (λ t. cond (q t) (g t) 0) squares))
    where
      go : (n : ℕ) (a b : Bool) → cond (a || b) n 0 ≤ cond a n 0 + cond b n 0
      go n true b = omega arith
      go n false b = omega arith

  -- squares that pass for some member of a list, which weigh at most so much for each
  pub weighed-any : {A : Type 0} (f : ℕ → A → Bool) (h : A → ℕ) (l : List A)
      → ((x : A) → weighed g (λ t. f t x) ≤ h x) → weighed g (λ t. any (f t) l) ≤ total h l
  unfolding any total
  weighed-any f h [] k = weighed-none (λ t. false) 0 (λ t. refl)
  weighed-any f h (x ∷ l) k = omega (arith, weighed-or (λ t. f t x) (λ t. any (f t) l), k x, weighed-any f h l k)
