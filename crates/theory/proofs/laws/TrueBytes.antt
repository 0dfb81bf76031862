-- The true byte of a position: 2 + n exactly where the depth is n, and there is one.
use Rattle.std.specs.Prelude.{◌≡◌, ◌↔◌, ℕ, ◌+◌}
use Rattle.std.proofs.Common.{sym, ◌∙◌, arith}
use Rattle.theory.specs.Game.{Game}
use Rattle.theory.specs.Value.{DepthIs, TrueByte}
use Rattle.theory.proofs.laws.Depth.{one-depth, draw-is}

module _ (G : Game) where
  pub byte-is : (p : G.Pos) (b n : ℕ) → TrueByte G p b → (b ≡ 2 + n) ↔ DepthIs G n p
  byte-is p b n (TrueByte.win k a e) = (
    λ d. let h : k ≡ n = omega arith in rw (← h) (DepthIs.win a),
    λ d. let h = one-depth G n k p d (DepthIs.win a) in omega arith,
  )
  byte-is p b n (TrueByte.loss k a e) = (
    λ d. let h : k ≡ n = omega arith in rw (← h) (DepthIs.loss a),
    λ d. let h = one-depth G n k p d (DepthIs.loss a) in omega arith,
  )
  byte-is p b n (TrueByte.draw a e) = (λ d. absurd (omega arith), λ d. absurd ((draw-is G p).0 a n d))

  -- the byte of a depth
  pub depth-byte : (p : G.Pos) (n b : ℕ) → DepthIs G n p → b ≡ 2 + n → TrueByte G p b
  depth-byte p n b (DepthIs.win w) e = TrueByte.win n w e
  depth-byte p n b (DepthIs.loss l) e = TrueByte.loss n l e

  pub byte_one : (p : G.Pos) (a b : ℕ) → TrueByte G p a → TrueByte G p b → a ≡ b
  byte_one p a b t (TrueByte.win n w e) = (byte-is p a n t).1 (DepthIs.win w) ∙ sym e
  byte_one p a b t (TrueByte.loss n l e) = (byte-is p a n t).1 (DepthIs.loss l) ∙ sym e
  byte_one p a b (TrueByte.win n w d) (TrueByte.draw r e) = absurd (r.not-won n w.within)
  byte_one p a b (TrueByte.loss n l d) (TrueByte.draw r e) = absurd (r.not-lost n l.within)
  byte_one p a b (TrueByte.draw r d) (TrueByte.draw s e) = d ∙ sym e
