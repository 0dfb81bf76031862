-- `working_back::next_at` meets its contract. The loop's invariant: no number passed holds the byte.
use Prim.Native.Nat.{◌-◌}
use lib.ListN.{length}
use Rattle.working_back.specs.Back.{Passes}
use Rattle.working_back.proofs.finding.next_at.Given as goal

abbrev pub invariant-loop-n : goal.invariant-loop-n
invariant-loop-n l = Passes l.table l.byte l.from l.n

abbrev pub decreases-loop-n : goal.decreases-loop-n
decreases-loop-n l = length l.table - l.n
