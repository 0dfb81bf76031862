use mathlib.Core.Path.{refl, sym, ap, ◌∙◌}
use mathlib.Core.Bool.{◌||◌}
use Prim.Native.Nat.{◌+◌}
use native.Mathlib.Omega.{arith}
use Rattle.finite.specs.Numbers.{any-end}
use Rattle.board.specs.Reach.{line_of, stepped}
use Rattle.board.specs.Sets.{has}
use Rattle.board.proofs.laws.SetLaws.{has-none}
use Rattle.board.proofs.laws.SweepLaws.{sweep-end, sweep-line}
use Rattle.board.proofs.laws.StepLaws.{step_small, is-stepped}
use Rattle.board.proofs.laws.WalkBits.{nearer, free-board, gathers-on, gathers-last}
use Rattle.board.proofs.lines.lines.Invariants.{ways}
use Rattle.board.proofs.lines.lines.Goals as goal

pub lines-init : goal.lines-init
lines-init c = record { rest = λ t h. rw (has-none t) }

pub ends_of-ends-requires : goal.ends_of-ends-requires
ends_of-ends-requires c = (step_small c.step_at-step.result c.lines.k (omega arith) c.step_at-step.ensures).0

pub loop-at-init : goal.loop-at-init
loop-at-init c =
    let a = c.args in
    let o = c.lines in
    record {
      way = o.k;
      fits = omega arith;
      its = c.step_at-step.ensures;
      square = a.from;
      on = c.requires.0;
      is = refl;
      rest = λ t h. o.invariant.rest t h
          ∙ sweep-line (line_of (has a.occ) 0 a.from t) o.k a.end c.if-end-k.false
          (has o.set t);
    }

pub stepped-at-requires : goal.stepped-at-requires
stepped-at-requires c =
    let l = c.loop-at in
    let w = step_small _ l.invariant.way (omega arith) l.invariant.its in
    (w.0, w.1, c.ends_of-ends.ensures)

pub lines-preserved : goal.lines-preserved
lines-preserved c =
    let l = c.loop-at in
    let a = c.args in
    let lands = c.stepped-at.ensures l.invariant.square l.invariant.on l.invariant.is in
    record {
      rest = λ t h.
          l.invariant.rest t h
          ∙ ap (λ b. b || ways a.occ a.from a.end
          (c.lines.k + 1) t)
          (gathers-last l.invariant.way _ l.invariant.square _ l.invariant.fits l.invariant.its lands a.occ
          c.ranges.occ.fits l.set t h c.if-at-occ-eq0.true);
    }

pub loop-at-smaller : goal.loop-at-smaller
loop-at-smaller c =
    let l = c.loop-at in
    let lands = c.stepped-at.ensures l.invariant.square l.invariant.on l.invariant.is in
    rw l.invariant.is
    (nearer l.invariant.way _ l.invariant.square _ l.invariant.fits l.invariant.its lands l.invariant.on
    (free-board l.invariant.way _ l.invariant.square _ l.invariant.fits l.invariant.its lands c.args.occ
    c.ranges.occ.fits c.if-at-occ-eq0.false))

pub loop-at-preserved : goal.loop-at-preserved
loop-at-preserved c =
    let l = c.loop-at in
    let a = c.args in
    let lands = c.stepped-at.ensures l.invariant.square l.invariant.on l.invariant.is in
    record {
      way = l.invariant.way;
      fits = l.invariant.fits;
      its = l.invariant.its;
      square = stepped l.invariant.square l.invariant.way;
      on = free-board l.invariant.way _ l.invariant.square _ l.invariant.fits l.invariant.its lands a.occ
          c.ranges.occ.fits c.if-at-occ-eq0.false;
      is = is-stepped l.invariant.square l.invariant.way _ _ l.invariant.its lands;
      rest = λ t h.
          l.invariant.rest t h
          ∙ ap (λ b. b || ways a.occ a.from a.end
          (c.lines.k + 1) t)
          (gathers-on l.invariant.way _ l.invariant.square _ l.invariant.fits l.invariant.its lands a.occ
          c.ranges.occ.fits l.set t h c.if-at-occ-eq0.false);
    }

pub returns : goal.returns
returns c =
    let a = c.args in
    let o = c.lines in
    λ t h. sym (o.invariant.rest t h
    ∙ sweep-end _ _ (any-end (line_of (has a.occ) 0 a.from t) o.k a.end c.if-end-k.true))
