-- A table consistent with the rule holds the true bytes, and the true bytes are consistent: there is one such table. Where a depth
-- exceeds 253 there is none.
use Rattle.std.specs.Prelude.{◌≡◌, ◌⊎◌, ◌↔◌, not, map, ℕ, zero, suc, ◌+◌, ◌-◌, ◌≤◌, ◌<◌, T, leb}
use Rattle.std.proofs.Common.{sym, ◌∙◌, inl, inr, arith, T_not, leb→le, le→leb}
use Rattle.finite.specs.Truth.{decided}
use Rattle.theory.specs.Game.{Game, next}
use Rattle.theory.specs.Value.{DepthIs, TrueByte}
use Rattle.theory.proofs.laws.Depth.{draw-is}
use Rattle.theory.proofs.laws.TrueBytes.{byte-is, depth-byte}
use Rattle.theory.specs.Required.{required_at, Closed, Consistent}
use Rattle.theory.proofs.laws.RuleLaws.{required-pos}
use Rattle.theory.proofs.laws.Step.{RightBelow, step}

module _ (G : Game) (D : G.Pos → Type 0) (closed : Closed G D) (reads : G.Pos → ℕ) where
  right-below : Consistent G D reads → (k : ℕ) (p : G.Pos) → D p → RightBelow G reads k p
  right-below ok zero p d n h = absurd (omega arith)
  right-below ok (suc k) p d n h =
      rw (ok p d) (step G reads p n (λ q i m l. right-below ok k q (closed p q d i) m (omega arith)))

  -- Consistent: a byte 2 + n says depth n, and the other way round.
  pub consistent-depth : Consistent G D reads → (p : G.Pos) → D p → (n : ℕ) → (reads p ≡ 2 + n) ↔ DepthIs G n p
  consistent-depth ok p d n = right-below ok (suc n) p d n (omega arith)

  -- Consistent: each byte is the true one.
  pub consistent-true : Consistent G D reads → (p : G.Pos) → D p → TrueByte G p (reads p)
  consistent-true ok p d = go (decided (leb (reads p) 1))
    where
      known : (n : ℕ) → (reads p ≡ 2 + n) ↔ DepthIs G n p
      known = consistent-depth ok p d

      go : T (leb (reads p) 1) ⊎ T (not (leb (reads p) 1)) → TrueByte G p (reads p)
      go (inl t) = let h = leb→le (reads p) 1 t in
          TrueByte.draw ((draw-is G p).1 (λ n k. omega (arith, (known n).1 k)))
          (omega (arith, ok p d, required-pos (G.mated p) (map reads (next G p))))
      go (inr t) = let h : ¬ (reads p ≤ 1) = λ l. T_not (leb (reads p) 1) t (le→leb (reads p) 1 l) in
          let e : reads p ≡ 2 + (reads p - 2) = omega arith in
          depth-byte G p (reads p - 2) (reads p) ((known (reads p - 2)).0 e) e

  -- The true bytes are consistent.
  pub true-consistent : ((p : G.Pos) → D p → TrueByte G p (reads p)) → Consistent G D reads
  true-consistent truth p d = go (decided (leb (required_at G reads p) 1)) (truth p d)
    where
      at : (n : ℕ) → (required_at G reads p ≡ 2 + n) ↔ DepthIs G n p
      at n = step G reads p n (λ q i m l. byte-is G q (reads q) m (truth q (closed p q d i)))

      low : required_at G reads p ≤ 1 → TrueByte G p (reads p) → reads p ≡ required_at G reads p
      low h (TrueByte.win n w e) = absurd (omega (arith, (at n).1 (DepthIs.win w)))
      low h (TrueByte.loss n w e) = absurd (omega (arith, (at n).1 (DepthIs.loss w)))
      low h (TrueByte.draw w e) = omega (arith, required-pos (G.mated p) (map reads (next G p)))

      go : T (leb (required_at G reads p) 1) ⊎ T (not (leb (required_at G reads p) 1)) → TrueByte G p (reads p)
          → reads p ≡ required_at G reads p
      go (inl t) b = low (leb→le (required_at G reads p) 1 t) b
      go (inr t) b = let h : ¬ (required_at G reads p ≤ 1) =
          λ l. T_not (leb (required_at G reads p) 1) t (le→leb (required_at G reads p) 1 l) in
          let e : required_at G reads p ≡ 2 + (required_at G reads p - 2) = omega arith in
          (byte-is G p (reads p) (required_at G reads p - 2) b).1 ((at (required_at G reads p - 2)).0 e) ∙ sym e

  -- Where a position is deeper than 253, no table of bytes is consistent.
  pub too-deep : (p : G.Pos) (n : ℕ) → D p → DepthIs G n p → 253 < n → ((q : G.Pos) → D q → reads q < 256)
      → Consistent G D reads → ⊥
  too-deep p n d k h small ok = omega (arith, small p d, (consistent-depth ok p d n).1 k)
