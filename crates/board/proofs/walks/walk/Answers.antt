-- What is left of the walk, from the square come to, is what the whole gives.
use Rattle.std.specs.Prelude.{Some}
use mathlib.Core.Path.{refl, sym, ap, ◌∙◌}
use native.Mathlib.Omega.{arith}
use Rattle.board.specs.Reach.{stepped}
use Rattle.board.proofs.laws.StepLaws.{step_small, is-stepped}
use Rattle.board.proofs.laws.WalkLaws.{walk-off, walk-nowhere}
use Rattle.board.proofs.laws.WalkBits.{on-board, nearer, meets-edge, meets-piece, goes_on}
use Rattle.board.proofs.walks.walk.Goals as goal

pub returns-then-from-ge64 : goal.returns-then-from-ge64
returns-then-from-ge64 c = sym (walk-off _ _ _ c.if-from-ge64.true)

pub returns-then-direction-ge8 : goal.returns-then-direction-ge8
returns-then-direction-ge8 c = sym (walk-nowhere _ _ _ c.if-direction-ge8.true)

pub ends_of-ends-requires : goal.ends_of-ends-requires
ends_of-ends-requires c = (step_small c.step_at-step.result c.args.direction (omega arith) c.step_at-step.ensures).0

pub loop-at-init : goal.loop-at-init
loop-at-init c =
    record {
      square = c.args.from;
      on = c.if-from-ge64.false;
      is = refl;
      rest = refl;
    }

pub stepped-at-requires : goal.stepped-at-requires
stepped-at-requires c =
    let d = c.step_at-step in
    let w = step_small d.result c.args.direction (omega arith)
    d.ensures in
    (w.0, w.1, c.ends_of-ends.ensures)

pub loop-at-smaller : goal.loop-at-smaller
loop-at-smaller c =
    let l = c.loop-at in
    let k = c.args.direction in
    let p = c.step_at-step.ensures in
    let lands = c.stepped-at.ensures l.invariant.square l.invariant.on l.invariant.is in
    rw l.invariant.is
    (nearer k _ l.invariant.square _ c.if-direction-ge8.false p lands l.invariant.on
    (on-board k _ l.invariant.square _ c.if-direction-ge8.false p lands c.if-at-eq0.false))

pub loop-at-preserved : goal.loop-at-preserved
loop-at-preserved c =
    let l = c.loop-at in
    let k = c.args.direction in
    let p = c.step_at-step.ensures in
    let lands = c.stepped-at.ensures l.invariant.square l.invariant.on l.invariant.is in
    record {
      square = stepped l.invariant.square k;
      on = on-board k _ l.invariant.square _ c.if-direction-ge8.false p lands c.if-at-eq0.false;
      is = is-stepped l.invariant.square k _ _ p lands;
      rest = l.invariant.rest
          ∙ goes_on k _ l.invariant.square _ c.if-direction-ge8.false p lands c.args.occ
          c.ranges.occ.fits c.if-at-eq0.false c.if-at-occ-ne0.false;
    }

pub returns-then-at-eq0 : goal.returns-then-at-eq0
returns-then-at-eq0 c =
    let l = c.loop-at in
    let lands = c.stepped-at.ensures l.invariant.square l.invariant.on l.invariant.is in
    sym (l.invariant.rest
    ∙ meets-edge c.args.direction _ l.invariant.square _ c.if-direction-ge8.false c.step_at-step.ensures
    lands c.args.occ c.ranges.occ.fits c.if-at-eq0.true)

pub returns-then-at-occ-ne0 : goal.returns-then-at-occ-ne0
returns-then-at-occ-ne0 c =
    let l = c.loop-at in
    let lands = c.stepped-at.ensures l.invariant.square l.invariant.on l.invariant.is in
    ap Some c.lowest.ensures
    ∙ sym (l.invariant.rest
    ∙ meets-piece c.args.direction _ l.invariant.square _ c.if-direction-ge8.false
    c.step_at-step.ensures lands c.args.occ c.ranges.occ.fits c.if-at-eq0.false
    c.if-at-occ-ne0.true)
