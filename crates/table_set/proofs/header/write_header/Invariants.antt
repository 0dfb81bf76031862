-- `table_set::write_header` meets its contract. The loop's invariant: the entries left, written over the set as it stands, give the whole header.
use Rattle.table_set.proofs.laws.Turns.{Headed}
use Rattle.table_set.proofs.header.write_header.Given as goal

abbrev pub invariant-loop-code : goal.invariant-loop-code
invariant-loop-code l = Headed l.choice l.n l.initial.set l.set l.at l.offset l.code
