-- `working_back::past_runs` meets its contract. The loop's invariant: no number passed holds the byte.
use native.Mathlib.Omega.{arith}
use Rattle.working_back.proofs.laws.Passing.{passes_none, passes-run}
use Rattle.working_back.proofs.finding.past_runs.Goals as goal

pub loop-n-init : goal.loop-n-init
loop-n-init c = passes_none _ _ _ c.requires

pub overflow_sub-table : goal.overflow_sub-table
overflow_sub-table c = c.loop-n.invariant.inside

pub run_holds-requires : goal.run_holds-requires
run_holds-requires c = omega (arith, c.loop-n.invariant.inside, c.loop-n-test.true)

pub returns-then-run_holds : goal.returns-then-run_holds
returns-then-run_holds c = c.loop-n.invariant

pub overflow_add-n : goal.overflow_add-n
overflow_add-n c = omega (arith, c.loop-n.invariant.inside, c.loop-n-test.true)

pub loop-n-smaller : goal.loop-n-smaller
loop-n-smaller c = omega (arith, c.loop-n.invariant.inside, c.loop-n-test.true)

pub loop-n-preserved : goal.loop-n-preserved
loop-n-preserved c =
    let l = c.loop-n in
    passes-run c.args.table.now _ _ l.n l.invariant
    (omega (arith, l.invariant.inside, c.loop-n-test.true)) (c.run_holds.ensures c.if-run_holds.false)

pub returns : goal.returns
returns c = c.loop-n.invariant
