-- `working_back::next_at` meets its contract. The loop's invariant: no number passed holds the byte.
use native.Mathlib.Omega.{arith}
use Rattle.working_back.proofs.laws.Passing.{passes_none, passes_then}
use Rattle.working_back.proofs.finding.next_at.Goals as goal

pub loop-n-init : goal.loop-n-init
loop-n-init c = passes_none _ _ _ c.requires

pub run_end-end-requires : goal.run_end-end-requires
run_end-end-requires c = c.loop-n-test.true

pub next_before-n-requires : goal.next_before-n-requires
next_before-n-requires c = let e = c.run_end-end.ensures in (omega (arith, e.0), e.1)

pub returns-then-n-end : goal.returns-then-n-end
returns-then-n-end c =
    let t = c.args.table.now in
    let l = c.loop-n in
    let e = c.next_before-n.ensures in
    record { passes = passes_then t _ _ l.n _ l.invariant e.passes; upto = e.passes.inside; here = λ h. e.here c.if-n-end.true }

pub past_runs-n-requires : goal.past_runs-n-requires
past_runs-n-requires c = c.next_before-n.ensures.passes.inside

pub loop-n-smaller : goal.loop-n-smaller
loop-n-smaller c =
    omega (arith, c.run_end-end.ensures.0, c.run_end-end.ensures.1, c.if-n-end.false, c.past_runs-n.ensures.later)

pub loop-n-preserved : goal.loop-n-preserved
loop-n-preserved c =
    let t = c.args.table.now in
    let l = c.loop-n in
    passes_then t _ _ l.n _ l.invariant
    (passes_then t _ _ _ _ c.next_before-n.ensures.passes c.past_runs-n.ensures)

pub returns : goal.returns
returns c =
    let l = c.loop-n in
    record { passes = l.invariant; upto = l.invariant.inside; here = λ h. absurd (omega (arith, h, c.loop-n-test.false)) }
