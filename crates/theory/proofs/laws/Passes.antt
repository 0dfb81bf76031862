-- Filling by passes: pass k settles exactly the positions of depth k, and a pass that settles none ends it.
use Rattle.std.specs.Prelude.{◌≡◌, ◌⊎◌, ◌↔◌, true, false, not, ◌&&◌, ◌||◌, leb}
use Rattle.std.proofs.Math.Path.{refl, ap}
use Rattle.std.proofs.Common.{subst, inl, inr, zero-add, suc-add, arith, eqb→eq, leb→le, le→leb}
use Rattle.std.proofs.Math.Bool.{Bool, cond}
use Prim.Native.Nat.{ℕ, zero, suc, ◌+◌, ◌-◌, ◌≤◌, ◌<◌}
use Rattle.std.proofs.Math.Dec.{T, T_not, not_T, eqb, eqb_refl}
use Rattle.finite.specs.Truth.{decided, and_left, and_right, and_both, or_left, or_right, or_cases, true_of, false_of, same_test}
use Rattle.finite.specs.Members.{◌∈◌}
use Rattle.theory.specs.Game.{Game, next}
use Rattle.theory.specs.Value.{won, lost, DepthIs, TrueByte}
use Rattle.theory.proofs.laws.Within.{won-le, lost-le, won-exact, lost-exact}
use Rattle.theory.proofs.laws.Depth.{one-depth, draw-is, win-is, loss-is}
use Rattle.theory.proofs.laws.TrueBytes.{depth-byte}
use Rattle.theory.specs.Required.{required_at, Closed}
use Rattle.theory.proofs.laws.Step.{RightBelow, step}

eq_test : {a b : ℕ} → a ≡ b → T (eqb a b)
eq_test {a} e = subst (λ (n : ℕ). T (eqb a n)) e (eqb_refl a)

module _ (G : Game) where
  -- The byte after k passes: 2 + n where the depth n is below k, and 1 elsewhere.
  unfoldable pub settled : ℕ → G.Pos → ℕ
  settled zero p = 1
  settled (suc k) p = cond (eqb (settled k p) 1 && (won G k p || lost G k p)) (2 + k) (settled k p)

  pub data Settled (k : ℕ) (p : G.Pos) (b : ℕ) : Type 0 where
    yet : ((n : ℕ) → n < k → DepthIs G n p → ⊥) → b ≡ 1 → Settled k p b
    done : (n : ℕ) → n < k → DepthIs G n p → b ≡ 2 + n → Settled k p b

  -- not below k, and won or lost within k: depth k
  reached : (k : ℕ) (p : G.Pos) → ((n : ℕ) → n < k → DepthIs G n p → ⊥) → T (won G k p) ⊎ T (lost G k p)
      → DepthIs G k p
  reached k p none (inl t) = let e = won-exact G k p t in let h : ¬ (e.0 < k) =
      λ l. none e.0 l (DepthIs.win e.2) in let z : e.0 ≡ k = omega (arith, e.1) in
      subst (λ (n : ℕ). DepthIs G n p) z (DepthIs.win e.2)
  reached k p none (inr t) = let e = lost-exact G k p t in let h : ¬ (e.0 < k) =
      λ l. none e.0 l (DepthIs.loss e.2) in let z : e.0 ≡ k = omega (arith, e.1) in
      subst (λ (n : ℕ). DepthIs G n p) z (DepthIs.loss e.2)

  within : (n k : ℕ) (p : G.Pos) → n ≤ k → DepthIs G n p → T (won G k p || lost G k p)
  within n k p h (DepthIs.win w) = or_left (won G k p) _ (won-le G n k p h w.within)
  within n k p h (DepthIs.loss l) = or_right (won G k p) _ (lost-le G n k p h l.within)

  pub settled_is : (k : ℕ) (p : G.Pos) → Settled k p (settled k p)
  unfolding settled
  settled_is zero p = Settled.yet (λ n h d. omega arith) refl
  settled_is (suc k) p = go (settled k p) (settled_is k p)
    where
      no-pass : (n : ℕ) → n < suc k → T (not (won G k p || lost G k p)) → DepthIs G n p → ⊥
      no-pass n h t d = T_not (won G k p || lost G k p) t (within n k p (omega arith) d)

      at_one : ((n : ℕ) → n < k → DepthIs G n p → ⊥) → T (won G k p || lost G k p) ⊎ T (not (won G k p || lost G k p))
          → Settled (suc k) p (cond (won G k p || lost G k p) (2 + k) 1)
      at_one none (inl t) = let e : (won G k p || lost G k p) ≡ true = true_of t in
          rw e (Settled.done k (omega arith) (reached k p none (or_cases (won G k p) _ t)) refl)
      at_one none (inr t) =
          let e : (won G k p || lost G k p) ≡ false = false_of t in rw e (Settled.yet (λ n h d. no-pass n h t d) refl)

      go : (b : ℕ) → Settled k p b → Settled (suc k) p (cond (eqb b 1 && (won G k p || lost G k p)) (2 + k) b)
      go b (Settled.yet none e) = rw e (at_one none (decided (won G k p || lost G k p)))
      go b (Settled.done n h d e) =
          let f : eqb b 1 ≡ false = false_of (not_T (eqb b 1) (λ t. let z = eqb→eq b 1 t in omega arith)) in
          rw f (Settled.done n (omega arith) d e)

  -- a byte after k passes is right about the depths below k
  pub settled-right : (k : ℕ) (p : G.Pos) → RightBelow G (settled k) k p
  settled-right k p n h = go (settled_is k p)
    where
      go : Settled k p (settled k p) → (settled k p ≡ 2 + n) ↔ DepthIs G n p
      go (Settled.yet none e) = (λ d. absurd (omega arith), λ d. absurd (none n h d))
      go (Settled.done m l d e) =
          (λ f. let z : m ≡ n = omega arith in rw z at d, λ f. let z = one-depth G m n p d f in omega arith)

  -- Pass k, from bytes that are right about the depths below k at the successors (those after k passes, or a finished table's): a position
  -- that holds 1 gets 2 + k where the rule requires depth k.
  pub pass-from : (reads : G.Pos → ℕ) (k : ℕ) (p : G.Pos) → ((q : G.Pos) → q ∈ next G p → RightBelow G reads k q)
      → settled (suc k) p ≡ cond (eqb (settled k p) 1 && eqb (required_at G reads p) (2 + k)) (2 + k) (settled k p)
  unfolding settled
  pass-from reads k p right =
      ap (λ (b : Bool). cond b (2 + k) (settled k p))
      (same_test (one && (won G k p || lost G k p)) (one && eqb (required_at G reads p) (2 + k)) there back)
    where
      one : Bool
      one = eqb (settled k p) 1

      rule : (required_at G reads p ≡ 2 + k) ↔ DepthIs G k p
      rule = step G reads p k right

      open-yet : Settled k p (settled k p) → T one → (n : ℕ) → n < k → DepthIs G n p → ⊥
      open-yet (Settled.yet none e) t = none
      open-yet (Settled.done m l d e) t = absurd (omega (arith, eqb→eq (settled k p) 1 t))

      there : T (one && (won G k p || lost G k p)) → T (one && eqb (required_at G reads p) (2 + k))
      there t = and_both one _ (and_left one _ t)
          (eq_test
          (rule.1
          (reached k p (open-yet (settled_is k p) (and_left one _ t)) (or_cases (won G k p) _ (and_right one _ t)))))

      back : T (one && eqb (required_at G reads p) (2 + k)) → T (one && (won G k p || lost G k p))
      back t = and_both one _ (and_left one _ t)
          (within k k p (omega arith) (rule.0 (eqb→eq _ (2 + k) (and_right one _ t))))

  pub pass : (k : ℕ) (p : G.Pos)
      → settled (suc k) p ≡ cond (eqb (settled k p) 1 && eqb (required_at G (settled k) p) (2 + k)) (2 + k) (settled k p)
  pass k p = pass-from (settled k) k p (λ q i. settled-right k q)

  -- Pass k settles p exactly where the depth is k ..
  pub pass-settles : (k : ℕ) (p : G.Pos) → (settled (suc k) p ≡ 2 + k) ↔ DepthIs G k p
  pass-settles k p = settled-right (suc k) p k (omega arith)

  -- .. and where it leaves p as it was the depth is not k.
  pub pass-leaves : (k : ℕ) (p : G.Pos) → settled (suc k) p ≡ settled k p → DepthIs G k p → ⊥
  pass-leaves k p same h = clash (settled_is k p) ((pass-settles k p).1 h)
    where
      clash : Settled k p (settled k p) → settled (suc k) p ≡ 2 + k → ⊥
      clash (Settled.yet none e) f = omega arith
      clash (Settled.done m l x e) f = omega arith

  module _ (D : G.Pos → Type 0) (closed : Closed G D) where
    -- a position of depth n + 1 has a successor of depth n: no depth is skipped
    pub shallower : (n : ℕ) (p : G.Pos) → D p → DepthIs G (suc n) p → (q : G.Pos) × D q × DepthIs G n q
    shallower n p d (DepthIs.win w) =
        let r = (win-is G n p).0 w in (r.to, closed p r.to d r.legal, DepthIs.loss r.loss)
    shallower n p d (DepthIs.loss l) =
        let r = (loss-is G n p).0 l in (r.to, closed p r.to d r.legal, DepthIs.win r.longest)

    -- so a depth above k somewhere in D means the depth k somewhere in D
    pub deep-down : (n k : ℕ) (p : G.Pos) → D p → DepthIs G (n + k) p → (q : G.Pos) × D q × DepthIs G k q
    deep-down zero k p d h = (p, d, rw zero-add at h)
    deep-down (suc n) k p d h = let q = shallower (n + k) p d (rw suc-add at h) in deep-down n k q.0 q.1 q.2

    -- No position of D has depth k: then nothing is settled later, and every depth in D is below k.
    pub all-below : (k : ℕ) → ((p : G.Pos) → D p → DepthIs G k p → ⊥) → (n : ℕ) (p : G.Pos) → D p → DepthIs G n p
        → n < k
    all-below k none n p d h = go (decided (leb k n))
      where
        go : T (leb k n) ⊎ T (not (leb k n)) → n < k
        go (inl t) = let l = leb→le k n t in let z : n ≡ (n - k) + k = omega arith in
            let q = deep-down (n - k) k p d (subst (λ (m : ℕ). DepthIs G m p) z h) in absurd (none q.0 q.1 q.2)
        go (inr t) = let l : ¬ (k ≤ n) = λ l. T_not (leb k n) t (le→leb k n l) in omega arith

    -- No position of D has depth k: then after k passes each byte is the true one, and 1 means a draw.
    pub complete : (k : ℕ) → ((p : G.Pos) → D p → DepthIs G k p → ⊥) → (p : G.Pos) → D p → TrueByte G p (settled k p)
    complete k none-at p d = go (settled_is k p)
      where
        go : Settled k p (settled k p) → TrueByte G p (settled k p)
        go (Settled.yet none e) = TrueByte.draw ((draw-is G p).1 (λ n h. none n (all-below k none-at n p d h) h)) e
        go (Settled.done n l h e) = depth-byte G p n (settled k p) h e

    -- The greatest depth of the positions D.
    pub record Greatest (n : ℕ) : Type 0 where
      pub position : G.Pos
      pub inside : D position
      pub depth : DepthIs G n position
      pub most : (m : ℕ) (p : G.Pos) → D p → DepthIs G m p → m ≤ n

    -- Pass n settles a position and pass n + 1 none: the greatest depth is n.
    pub greatest : (n : ℕ) (p : G.Pos) → D p → DepthIs G n p → ((q : G.Pos) → D q → DepthIs G (suc n) q → ⊥)
        → Greatest n
    greatest n p d h none =
        record { position = p; inside = d; depth = h; most = λ m q e k. omega (arith, all-below (suc n) none m q e k) }
