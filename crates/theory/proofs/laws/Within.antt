-- Won within k and lost within k: their clauses as laws, that more plies keep them, that no position is both.
use Rattle.std.proofs.Common.{ap, le_of_suc-le-suc, not-suc-le-zero, arith, T_not}
use Rattle.std.specs.Prelude.{◌⊎◌, ◌↔◌, Bool, not, ◌&&◌, map}
use Rattle.std.proofs.Math.Logic.{inl, inr}
use Prim.Native.Nat.{ℕ, zero, suc, ◌≤◌, zero-le}
use Rattle.std.proofs.Math.Dec.{T}
use Rattle.finite.specs.Truth.{decided, and_left, and_right, and_both, or_left, or_right, or_cases}
use Rattle.finite.specs.Members.{◌∈◌, all, some?, any-in, any_out, all_in, all-out, some?-in, some?-out, none_in}
use Rattle.theory.specs.Game.{Game, next}
use Rattle.theory.specs.Value.{won, lost, WonIn, LostIn}

-- A test of numbers that, once passed, stays passed.
abbrev pub Rising : (ℕ → Bool) → Type 0
Rising f = (k : ℕ) → T (f k) → T (f (suc k))

rising : (f : ℕ → Bool) → Rising f → (m n : ℕ) → m ≤ n → T (f m) → T (f n)
rising f up zero zero h t = t
rising f up zero (suc n) h t = up n (rising f up zero n zero-le t)
rising f up (suc m) zero h t = absurd (not-suc-le-zero h)
rising f up (suc m) (suc n) h t = rising (λ k. f (suc k)) (λ k. up (suc k)) m n (le_of_suc-le-suc h) t

-- where it fails at n, what passes is above n
pub above : (f : ℕ → Bool) → Rising f → (n m : ℕ) → T (not (f n)) → T (f m) → suc n ≤ m
above f up n m no? t = let h : ¬ (m ≤ n) = λ l. T_not (f n) no? (rising f up m n l t) in omega arith

-- where it passes at n, there is a least number that passes
least_passed : (f : ℕ → Bool) → Rising f → (n : ℕ) → T (f n) → (m : ℕ) × (m ≤ n) × T (f m) × ((j : ℕ) → T (f j) → m ≤ j)
least_passed f up zero t = (0, omega arith, t, λ j s. zero-le)
least_passed f up (suc n) t = go (decided (f n)) (λ (s : T (f n)). least_passed f up n s)
  where
    go : T (f n) ⊎ T (not (f n)) → (T (f n) → (m : ℕ) × (m ≤ n) × T (f m) × ((j : ℕ) → T (f j) → m ≤ j))
        → (m : ℕ) × (m ≤ suc n) × T (f m) × ((j : ℕ) → T (f j) → m ≤ j)
    go (inl s) before = let r = before s in (r.0, omega (arith, r.1), r.2, r.3)
    go (inr s) before = (suc n, omega arith, t, λ j. above f up n j s)

module _ (G : Game) where
  -- There is a move, and each leaves the other side won within k.
  pub record AllWon (k : ℕ) (p : G.Pos) : Type 0 where
    pub to : G.Pos
    pub legal : to ∈ next G p
    pub each : (q : G.Pos) → q ∈ next G p → T (won G k q)

  pub mate-next : (p : G.Pos) → T (G.mated p) → (q : G.Pos) → q ∈ next G p → ⊥
  mate-next p t q m = none_in (ap (map (G.play p)) (G.mate-ends p t)) m

  pub won-zero : (p : G.Pos) → T (won G 0 p) → ⊥
  unfolding won
  won-zero p t = t

  pub won-in : (k : ℕ) (p q : G.Pos) → q ∈ next G p → T (lost G k q) → T (won G (suc k) p)
  unfolding won
  won-in k p q m t = any-in (λ r. lost G k r) m t

  pub won-out : (k : ℕ) (p : G.Pos) → T (won G (suc k) p) → (q : G.Pos) × (q ∈ next G p) × T (lost G k q)
  unfolding won
  won-out k p t = any_out (λ r. lost G k r) (next G p) t

  pub lost-zero : (p : G.Pos) → T (lost G 0 p) ↔ T (G.mated p)
  unfolding lost
  lost-zero p = (λ t. t, λ t. t)

  pub lost-mate : (k : ℕ) (p : G.Pos) → T (G.mated p) → T (lost G k p)
  unfolding lost
  lost-mate zero p t = t
  lost-mate (suc k) p t = or_left (G.mated p) _ t

  pub lost-in : (k : ℕ) (p : G.Pos) → AllWon k p → T (lost G (suc k) p)
  unfolding lost
  lost-in k p a =
      or_right (G.mated p) _
      (and_both (some? (next G p)) _ (some?-in a.legal) (all_in (λ r. won G k r) (next G p) a.each))

  pub lost-out : (k : ℕ) (p : G.Pos) → T (lost G (suc k) p) → T (G.mated p) ⊎ AllWon k p
  unfolding lost
  lost-out k p t = go (or_cases (G.mated p) _ t)
    where
      go : T (G.mated p) ⊎ T (some? (next G p) && all (λ q. won G k q) (next G p)) → T (G.mated p) ⊎ AllWon k p
      go (inl s) = inl s
      go (inr s) = let o = some?-out (next G p) (and_left (some? (next G p)) _ s) in
          inr (record {
            to = o.0;
            legal = o.1;
            each = λ r m. all-out (λ q. won G k q) m (and_right (some? (next G p)) _ s);
          })

  -- what is won or lost within k is so within k + 1 ..
  more : (k : ℕ)
      → ((p : G.Pos) → T (won G k p) → T (won G (suc k) p)) × ((p : G.Pos) → T (lost G k p) → T (lost G (suc k) p))
  more zero = (λ p t. absurd (won-zero p t), λ p t. lost-mate 1 p ((lost-zero p).0 t))
  more (suc k) = (
    λ p t. let w = won-out k p t in won-in (suc k) p w.0 w.1 ((more k).1 w.0 w.2),
    λ p t. go (more k).0 p (lost-out k p t),
  )
    where
      go : ((q : G.Pos) → T (won G k q) → T (won G (suc k) q)) → (p : G.Pos) → T (G.mated p) ⊎ AllWon k p
          → T (lost G (suc (suc k)) p)
      go up p (inl s) = lost-mate (suc (suc k)) p s
      go up p (inr a) = lost-in (suc k) p (record { to = a.to; legal = a.legal; each = λ q m. up q (a.each q m) })

  pub won-up : (p : G.Pos) → Rising (λ k. won G k p)
  won-up p k = (more k).0 p

  lost-up : (p : G.Pos) → Rising (λ k. lost G k p)
  lost-up p k = (more k).1 p

  -- .. and within any more
  pub won-le : (m n : ℕ) (p : G.Pos) → m ≤ n → T (won G m p) → T (won G n p)
  won-le m n p h t = rising (λ k. won G k p) (won-up p) m n h t

  pub lost-le : (m n : ℕ) (p : G.Pos) → m ≤ n → T (lost G m p) → T (lost G n p)
  lost-le m n p h t = rising (λ k. lost G k p) (lost-up p) m n h t

  -- what is won within n is won in some m, at most n
  pub won-exact : (n : ℕ) (p : G.Pos) → T (won G n p) → (m : ℕ) × (m ≤ n) × WonIn G m p
  won-exact n p t =
      let r = least_passed (λ k. won G k p) (won-up p) n t in (r.0, r.1, record { within = r.2; least = r.3 })

  pub lost-exact : (n : ℕ) (p : G.Pos) → T (lost G n p) → (m : ℕ) × (m ≤ n) × LostIn G m p
  lost-exact n p t =
      let r = least_passed (λ k. lost G k p) (lost-up p) n t in (r.0, r.1, record { within = r.2; least = r.3 })

  -- no position is both won and lost
  clash : (j k : ℕ) → ((q : G.Pos) → T (lost G j q) → T (won G k q) → ⊥) → (p : G.Pos) → T (won G (suc j) p)
      → T (lost G (suc k) p) → ⊥
  clash j k no? p t s = go (lost-out k p s)
    where
      w : (q : G.Pos) × (q ∈ next G p) × T (lost G j q)
      w = won-out j p t

      go : T (G.mated p) ⊎ AllWon k p → ⊥
      go (inl m) = mate-next p m w.0 w.1
      go (inr a) = no? w.0 w.2 (a.each w.0 w.1)

  won-mate : (k : ℕ) (p : G.Pos) → T (won G k p) → T (G.mated p) → ⊥
  won-mate zero p t s = won-zero p t
  won-mate (suc k) p t s = let w = won-out k p t in mate-next p s w.0 w.1

  apart : (k : ℕ)
      → ((m : ℕ) (p : G.Pos) → T (won G k p) → T (lost G m p) → ⊥)
      × ((m : ℕ) (p : G.Pos) → T (lost G k p) → T (won G m p) → ⊥)
  apart zero = (λ m p t s. won-zero p t, λ m p t s. won-mate m p s ((lost-zero p).0 t))
  apart (suc k) = (left (apart k).1, right (apart k).0)
    where
      left : ((m : ℕ) (p : G.Pos) → T (lost G k p) → T (won G m p) → ⊥) → (m : ℕ) (p : G.Pos) → T (won G (suc k) p)
          → T (lost G m p) → ⊥
      left ih zero p t s = won-mate (suc k) p t ((lost-zero p).0 s)
      left ih (suc m) p t s = clash k m (ih m) p t s

      right : ((m : ℕ) (p : G.Pos) → T (won G k p) → T (lost G m p) → ⊥) → (m : ℕ) (p : G.Pos) → T (lost G (suc k) p)
          → T (won G m p) → ⊥
      right ih zero p t s = won-zero p s
      right ih (suc m) p t s = clash m k (λ q a b. ih m q b a) p s t

  pub won-not-lost : (n m : ℕ) (p : G.Pos) → T (won G n p) → T (lost G m p) → ⊥
  won-not-lost n m p = (apart n).0 m p
