-- `checking::lowest_wrong` meets its contract. The loop's invariant: the bytes below n are right, and the place at the
-- row's first number is kept.
use mathlib.Core.Path.{refl}
use Prim.Native.Nat.{◌<◌}
use native.Mathlib.Omega.{arith}
use Rattle.numbering.specs.Material.{size_of}
use Rattle.position.specs.Posed.{material_for}
use Rattle.deciding.proofs.laws.Rows.{row_next}
use Rattle.checking.proofs.laws.Laws.{right-more, found-wrong, found_right, size-most}
use Rattle.checking.proofs.checker.lowest_wrong.Goals as goal

pub loop-n-init : goal.loop-n-init
loop-n-init c = (omega arith, λ k h. absurd (omega arith), λ w z. absurd (z refl))

pub overflow_cast-n : goal.overflow_cast-n
overflow_cast-n c = omega (arith, c.loop-n-test.true, c.requires.1, size-most (material_for c.args.m))

pub overflow_cast-n-in-loop-n : goal.overflow_cast-n-in-loop-n
overflow_cast-n-in-loop-n c = omega (arith, c.loop-n-test.true, c.requires.1, size-most (material_for c.args.m))

pub bounds-table-n : goal.bounds-table-n
bounds-table-n c = omega (arith, c.loop-n-test.true)

pub is_right-requires : goal.is_right-requires
is_right-requires c =
    let h : c.loop-n.n < size_of (material_for c.args.m) = omega (arith, c.requires.1, c.loop-n-test.true) in
    ((c.requires.0, h), λ w. c.row_at-row.ensures w c.requires.0.colour h (c.loop-n.invariant.2 w))

pub overflow_cast-result : goal.overflow_cast-result
overflow_cast-result c = omega (arith, c.loop-n-test.true, c.requires.1, size-most (material_for c.args.m))

pub returns-then-not-is_right : goal.returns-then-not-is_right
returns-then-not-is_right c =
    let h : c.loop-n.n < size_of (material_for c.args.m) = omega (arith, c.requires.1, c.loop-n-test.true) in
    found-wrong _ _ _ _ _ h c.is_right.ensures c.if-not-is_right.true
    c.loop-n.invariant.1

pub loop-n-preserved : goal.loop-n-preserved
loop-n-preserved c =
    let h : c.loop-n.n < size_of (material_for c.args.m) = omega (arith, c.requires.1, c.loop-n-test.true) in (
      omega (arith, c.loop-n-test.true),
      right-more _ _ _ _ _ c.is_right.ensures c.if-not-is_right.false c.loop-n.invariant.1,
      λ w z. row_next _ _ _ (c.row_at-row.ensures w c.requires.0.colour h (c.loop-n.invariant.2 w)) z,
    )

pub returns : goal.returns
returns c =
    found_right _ _ _ _ (omega (arith, c.loop-n-test.false, c.requires.1))
    c.loop-n.invariant.1
