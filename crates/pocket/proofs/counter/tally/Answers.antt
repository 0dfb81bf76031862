-- `pocket::tally` meets its contract. The loop's invariant: the three counts of bits are those of the entries below byte i.
use Prim.Native.Nat.{◌+◌, ◌*◌}
use native.Mathlib.Omega.{arith}
use Rattle.pocket.proofs.laws.TallyLaws.{sums_none, sums-more, sums-room, sums-order, tallied, tally-length}
use Rattle.pocket.proofs.counter.tally.Goals as goal

pub returns-then-pocket-ne-POCKET_SIZE : goal.returns-then-pocket-ne-POCKET_SIZE
returns-then-pocket-ne-POCKET_SIZE c = tally-length _ c.if-pocket-ne-POCKET_SIZE.true

pub loop-i-init : goal.loop-i-init
loop-i-init c = sums_none _

pub overflow_add-low : goal.overflow_add-low
overflow_add-low c =
    omega (
      arith,
      (sums-room _ _ _ _ _
          (sums-more _ _ _ _ _ c.loop-i.invariant _ (8 * (c.loop-i.i + 1)) (omega arith) (omega (arith, c.loop-i-test.true)) c.word-w.ensures)).0,
    )

pub overflow_add-high : goal.overflow_add-high
overflow_add-high c =
    omega (
      arith,
      (sums-room _ _ _ _ _
          (sums-more _ _ _ _ _ c.loop-i.invariant _ (8 * (c.loop-i.i + 1)) (omega arith) (omega (arith, c.loop-i-test.true)) c.word-w.ensures)).1,
    )

pub overflow_add-both : goal.overflow_add-both
overflow_add-both c =
    omega (
      arith,
      (sums-room _ _ _ _ _
          (sums-more _ _ _ _ _ c.loop-i.invariant _ (8 * (c.loop-i.i + 1)) (omega arith) (omega (arith, c.loop-i-test.true)) c.word-w.ensures)).2,
    )

pub loop-i-preserved : goal.loop-i-preserved
loop-i-preserved c = sums-more _ _ _ _ _ c.loop-i.invariant _ (8 * (c.loop-i.i + 1)) (omega arith) (omega (arith, c.loop-i-test.true)) c.word-w.ensures

pub overflow_add-none : goal.overflow_add-none
overflow_add-none c =
    omega (arith, sums-order _ _ _ _ _ c.loop-i.invariant, sums-room _ _ _ _ _ c.loop-i.invariant)

pub overflow_sub-none : goal.overflow_sub-none
overflow_sub-none c =
    omega (arith, sums-order _ _ _ _ _ c.loop-i.invariant, sums-room _ _ _ _ _ c.loop-i.invariant)

pub overflow_sub-none-2 : goal.overflow_sub-none-2
overflow_sub-none-2 c =
    omega (arith, sums-order _ _ _ _ _ c.loop-i.invariant, sums-room _ _ _ _ _ c.loop-i.invariant)

pub overflow_cast-draws : goal.overflow_cast-draws
overflow_cast-draws c =
    omega (arith, sums-order _ _ _ _ _ c.loop-i.invariant, sums-room _ _ _ _ _ c.loop-i.invariant)

pub overflow_cast-wins : goal.overflow_cast-wins
overflow_cast-wins c =
    omega (arith, sums-order _ _ _ _ _ c.loop-i.invariant, sums-room _ _ _ _ _ c.loop-i.invariant)

pub overflow_cast-losses : goal.overflow_cast-losses
overflow_cast-losses c =
    omega (arith, sums-order _ _ _ _ _ c.loop-i.invariant, sums-room _ _ _ _ _ c.loop-i.invariant)

pub returns : goal.returns
returns c = tallied _ _ _ _ _ c.loop-i.invariant (omega (arith, c.loop-i-test.false)) c.if-pocket-ne-POCKET_SIZE.false
