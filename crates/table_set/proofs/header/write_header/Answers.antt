-- `table_set::write_header` meets its contract. The loop's invariant: the entries left, written over the set as it stands, give the whole header.
use Rattle.table_set.proofs.laws.Turns.{Headed, headed-start, headed-pass, headed-room, headed-take, headed-end}
use Prim.Native.Nat.{◌-◌}
use mathlib.Core.Path.{◌∙◌}
use borrow.Author.Tests.{not-true, not-false}
use native.Mathlib.Omega.{arith}
use Rattle.table_set.proofs.header.write_header.Goals as goal

pub loop-code-init : goal.loop-code-init
loop-code-init c =
    let p = c.requires in
    headed-start _ _ _ p.0 p.1 (omega (arith, c.put_word.auto.set, p.2))

pub loop-code-preserved-then-not-chosen : goal.loop-code-preserved-then-not-chosen
loop-code-preserved-then-not-chosen c =
    headed-pass _ _ _ _ _ _ _ c.loop-code.invariant _ c.chosen.ensures
    c.loop-code-test.true c.if-not-chosen.true

pub put_word-requires-in-loop-code : goal.put_word-requires-in-loop-code
put_word-requires-in-loop-code c =
    omega (
      arith,
      headed-room _ _ _ _ _ _ _ c.loop-code.invariant _ c.chosen.ensures
          c.loop-code-test.true c.if-not-chosen.false,
    )

pub overflow_add-at : goal.overflow_add-at
overflow_add-at c =
    omega (
      arith,
      headed-room _ _ _ _ _ _ _ c.loop-code.invariant _
          c.chosen.ensures
          c.loop-code-test.true
          c.if-not-chosen.false,
    )

pub put_word-requires-in-loop-code-2 : goal.put_word-requires-in-loop-code-2
put_word-requires-in-loop-code-2 c =
    omega (
      arith,
      headed-room _ _ _ _ _ _ _ c.loop-code.invariant _
          c.chosen.ensures
          c.loop-code-test.true
          c.if-not-chosen.false,
      c.put_word-in-loop-code.auto.set,
    )

pub overflow_add-at-in-loop-code : goal.overflow_add-at-in-loop-code
overflow_add-at-in-loop-code c =
    omega (
      arith,
      headed-room _ _ _ _ _ _ _
          c.loop-code.invariant _
          c.chosen.ensures
          c.loop-code-test.true
          c.if-not-chosen.false,
    )

pub put_word-requires-in-loop-code-3 : goal.put_word-requires-in-loop-code-3
put_word-requires-in-loop-code-3 c =
    omega (
      arith,
      headed-room _ _ _ _ _ _ _
          c.loop-code.invariant _
          c.chosen.ensures
          c.loop-code-test.true
          c.if-not-chosen.false,
      c.put_word-in-loop-code.auto.set,
      c.put_word-in-loop-code-2.auto.set,
    )

pub overflow_add-at-in-loop-code-2 : goal.overflow_add-at-in-loop-code-2
overflow_add-at-in-loop-code-2 c =
    omega (
      arith,
      headed-room _ _ _ _ _ _ _
          c.loop-code.invariant _ c.chosen.ensures c.loop-code-test.true c.if-not-chosen.false,
    )

pub overflow_add-offset-in-loop-code : goal.overflow_add-offset-in-loop-code
overflow_add-offset-in-loop-code c =
    omega (
      arith,
      c.loop-code.invariant.small,
      c.loop-code-test.true,
    )

pub loop-code-preserved : goal.loop-code-preserved
loop-code-preserved c =
    headed-take _ _ _ _ _ _ _
    c.loop-code.invariant _ c.chosen.ensures c.loop-code-test.true c.if-not-chosen.false _ _ _ c.put_word-in-loop-code.ensures c.put_word-in-loop-code-2.ensures c.put_word-in-loop-code-3.ensures

pub shape_of-set : goal.shape_of-set
shape_of-set c = c.loop-code.invariant.same_length ∙ c.put_word.auto.set

pub returns : goal.returns
returns c =
    let p = c.requires in
    headed-end _ _ _ _ _ _ _ c.loop-code.invariant _ c.loop-code-test.false p.0 p.2
    c.put_word.ensures
