-- `filling::mates_in_rows` meets its contract. The loop's invariant: the pass is done below n, in place, how many numbers it
-- settled there is kept, and so is the row's set.
use mathlib.Core.Path.{◌≡◌}
use Prim.Native.Nat.{◌%◌}
use Rattle.finite.specs.Mapped.{Upto}
use Rattle.table_theory.specs.Tables.{pass_byte}
use Rattle.rules.specs.Chess.{chess}
use Rattle.deciding.specs.Rows.{MateRow}
use Rattle.working_back.specs.Admitted.{over}
use Rattle.filling.proofs.laws.Laws.{settled_below}
use Rattle.filling.proofs.mates.mates_in_rows.Given as goal

abbrev pub invariant-loop-n : goal.invariant-loop-n
invariant-loop-n l = Upto (pass_byte chess (over l.m l.first l.second) 0 l.initial.table) l.initial.table l.table l.n
    × (l.settled ≡ settled_below chess (over l.m l.first l.second) 0 l.initial.table l.n)
    × ((l.n % 64 ≡ 0 → ⊥) → MateRow l.m l.n l.squares)
