-- `table_set::find` meets its contract. The loop's invariant: the search of the entries left gives the answer.
use Rattle.sets.specs.Answers.{find_entry, find_of}
use Rattle.std.proofs.Common.{◌≡◌, ◌+◌, ◌-◌, ◌*◌, ◌≤◌}
use Rattle.table_set.proofs.reader.find.Given as goal

abbrev pub invariant-loop-k : goal.invariant-loop-k
invariant-loop-k l = find_entry (l.n - l.k) l.set (4 + 12 * l.k) (l.first + 59136 * l.k) l.code ≡ find_of l.set l.code
