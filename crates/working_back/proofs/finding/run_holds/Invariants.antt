-- `working_back::run_holds` meets its contract. The loop's invariant: where the test has failed so far, no number passed holds the byte.
use mathlib.Core.Path.{◌≡◌}
use mathlib.Core.Bool.{false}
use Rattle.working_back.specs.Back.{NoneFrom}
use Rattle.working_back.proofs.finding.run_holds.Given as goal

abbrev pub invariant-loop-n : goal.invariant-loop-n
invariant-loop-n l = l.held ≡ false → NoneFrom l.table l.byte l.from l.n
