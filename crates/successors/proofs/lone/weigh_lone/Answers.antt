-- `successors::weigh_lone` meets its contract: by the side to move.
use mathlib.Core.Path.{◌≡◌}
use Prim.Native.Nat.{ℕ, ◌<◌}
use native.Mathlib.Omega.{arith}
use Rattle.position.proofs.laws.PosedLaws.{complete-spread}
use Rattle.successors.proofs.lone.weigh_lone.Goals as goal

black-moves : (side : ℕ) → side < 2 → (side ≡ 0 → ⊥) → side ≡ 1
black-moves side h n = omega arith

pub returns-then-q-eq0 : goal.returns-then-q-eq0
returns-then-q-eq0 c =
    λ w h. let r = c.white_reach-reach.ensures w h c.if-q-eq0.true in
    c.weighed_by.ensures _ _ _ r (c.judge_white-judged.ensures w h c.if-q-eq0.true r)

pub returns : goal.returns
returns c =
    λ w h. let s = black-moves _ (complete-spread w).side c.if-q-eq0.false in
    let r = c.black_reach-reach.ensures w h s in
    c.weighed_by-2.ensures _ _ _ r (c.judge_black.ensures _ w h s r _ _)
