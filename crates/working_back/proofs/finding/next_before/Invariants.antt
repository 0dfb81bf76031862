-- `working_back::next_before` meets its contract. The loop's invariant: no number passed holds the byte.
use Rattle.working_back.specs.Back.{Passes}
use Rattle.working_back.proofs.finding.next_before.Given as goal

abbrev pub invariant-loop-n : goal.invariant-loop-n
invariant-loop-n l = Passes l.table l.byte l.from l.n
