-- `table_set::write` meets its contract. The loop's invariant: the tables left, filled in the set as it stands, give the answer.
use Rattle.sets.specs.Layout.{codes_of}
use Rattle.table_set.proofs.laws.Turns.{Tabled, tabled_start, tabled-pass, tabled-room, tabled-take, tabled-refused, tabled-end, write-is}
use Rattle.sets.proofs.laws.Finish.{finish}
use Rattle.table_set.proofs.laws.Writing.{write-unlike}
use Prim.Native.Nat.{◌-◌}
use mathlib.Core.Path.{◌∙◌}
use borrow.Author.Tests.{not-true, not-false}
use native.Mathlib.Omega.{arith}
use Rattle.table_set.proofs.writer.write.Goals as goal

pub returns-then-set-first : goal.returns-then-set-first
returns-then-set-first c = write-unlike _ _ _ c.count-n.ensures.0 c.if-set-first.true

pub write_header-requires : goal.write_header-requires
write_header-requires c = let k = c.count-n.ensures in (k.0, k.1, omega (arith, c.if-set-first.false))

pub loop-code-init : goal.loop-code-init
loop-code-init c =
    tabled_start _ _ _ c.count-n.ensures.0
    (c.write_header.auto.set ∙ c.if-set-first.false)

pub loop-code-preserved-then-not-chosen : goal.loop-code-preserved-then-not-chosen
loop-code-preserved-then-not-chosen c =
    tabled-pass _ _ _ _ _ _ c.loop-code.invariant _ c.chosen.ensures
    c.loop-code-test.true c.if-not-chosen.true

pub fill_at-requires : goal.fill_at-requires
fill_at-requires c =
    tabled-room _ _ _ _ _ _ c.loop-code.invariant _ c.chosen.ensures
    c.loop-code-test.true c.if-not-chosen.false

pub shape_of-set-then-is_refused : goal.shape_of-set-then-is_refused
shape_of-set-then-is_refused c =
    c.fill_at.auto.set ∙ c.loop-code.invariant.same_length
    ∙ c.write_header.auto.set

pub returns-then-is_refused : goal.returns-then-is_refused
returns-then-is_refused c =
    let f = c.fill_at.ensures in
    let whole = tabled-refused _ _ _ _ _ _
    c.loop-code.invariant _
    c.chosen.ensures
    c.loop-code-test.true
    c.if-not-chosen.false _ _ _ f.0
    c.is_refused.ensures f.1 c.if-is_refused.true in
    write-is _ _ _ _ c.count-n.ensures.0
    c.if-set-first.false c.write_header.ensures _ _
    whole

pub overflow_add-at : goal.overflow_add-at
overflow_add-at c =
    omega (
      arith,
      tabled-room _ _ _ _ _ _
          c.loop-code.invariant _
          c.chosen.ensures
          c.loop-code-test.true
          c.if-not-chosen.false,
    )

pub loop-code-preserved : goal.loop-code-preserved
loop-code-preserved c =
    let f = c.fill_at in
    tabled-take _ _ _ _ _ _ c.loop-code.invariant _
    c.chosen.ensures
    c.loop-code-test.true
    c.if-not-chosen.false _ _ _ f.ensures.0
    c.is_refused.ensures f.ensures.1 f.auto.set c.if-is_refused.false

pub shape_of-set : goal.shape_of-set
shape_of-set c = c.loop-code.invariant.same_length ∙ c.write_header.auto.set

pub returns : goal.returns
returns c =
    write-is _ _ _ _ c.count-n.ensures.0
    c.if-set-first.false c.write_header.ensures _ _
    (tabled-end _ _ _ _ _ _ c.loop-code.invariant c.loop-code-test.false)
