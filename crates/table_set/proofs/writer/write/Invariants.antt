-- `table_set::write` meets its contract. The loop's invariant: the tables left, filled in the set as it stands, give the answer.
use Rattle.sets.specs.Layout.{codes_of}
use Rattle.table_set.proofs.laws.Turns.{Tabled, tabled_start, tabled-pass, tabled-room, tabled-take, tabled-refused, tabled-end, write-is}
use Rattle.sets.proofs.laws.Finish.{finish}
use Rattle.table_set.proofs.laws.Writing.{write-unlike}
use Prim.Native.Nat.{◌-◌}
use mathlib.Core.Path.{◌∙◌}
use borrow.Author.Tests.{not-true, not-false}
use native.Mathlib.Omega.{arith}
use Rattle.table_set.proofs.writer.write.Given as goal

abbrev pub invariant-loop-code : goal.invariant-loop-code
invariant-loop-code l = Tabled l.choice (finish (codes_of l.choice) l.first l.initial.set) l.initial.set l.set l.at l.code
