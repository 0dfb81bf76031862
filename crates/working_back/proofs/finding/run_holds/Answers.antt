-- `working_back::run_holds` meets its contract. The loop's invariant: where the test has failed so far, no number passed holds the byte.
use native.Mathlib.Omega.{arith}
use Rattle.working_back.proofs.laws.Passing.{held_more, none-upto}
use Rattle.working_back.proofs.finding.run_holds.Goals as goal

pub loop-n-init : goal.loop-n-init
loop-n-init c = λ e i h g. absurd (omega arith)

pub loop-n-preserved : goal.loop-n-preserved
loop-n-preserved c = held_more c.args.table.now _ _ c.loop-n.n c.loop-n.held c.loop-n.invariant

pub returns : goal.returns
returns c = λ e. none-upto c.args.table.now _ _ c.loop-n.n _ (omega (arith, c.loop-n-test.false)) (c.loop-n.invariant e)
