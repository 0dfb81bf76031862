-- `table_set::is_set` meets its contract. The loop's invariant: the test of the entries left is the test of the set.
use Rattle.sets.specs.Answers.{right_entries, right_set}
use Rattle.std.proofs.Common.{◌≡◌, ◌+◌, ◌*◌, ◌-◌, ◌≤◌, length}
use Rattle.table_set.proofs.reader.is_set.Given as goal

abbrev pub invariant-loop-k : goal.invariant-loop-k
invariant-loop-k l = right_entries (l.n - l.k) l.set (4 + 12 * l.k) l.least (l.first + 59136 * l.k) ≡ right_set l.set
