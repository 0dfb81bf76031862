-- `filling::pass_over` meets its contract. The loop's invariant: the pass is done below n, in place, how many numbers it
-- settled there is kept, and so is the place at the row's first number.
use mathlib.Core.Path.{◌≡◌}
use Prim.Native.Nat.{◌%◌, ◌<◌}
use lib.Dec.{T}
use Rattle.finite.specs.Mapped.{Upto}
use Rattle.table_theory.specs.Tables.{pass_byte}
use Rattle.rules.specs.Chess.{chess}
use Rattle.numbering.specs.Material.{known}
use Rattle.position.specs.Posed.{material_for}
use Rattle.working_back.specs.Admitted.{over}
use Rattle.deciding.specs.Rows.{RowOf}
use Rattle.filling.proofs.laws.Laws.{settled_below}
use Rattle.filling.proofs.pass.pass_over.Given as goal

abbrev pub invariant-loop-n : goal.invariant-loop-n
invariant-loop-n l = Upto (pass_byte chess (over l.m l.first l.second) l.k l.initial.table) l.initial.table l.table l.n
    × (l.settled ≡ settled_below chess (over l.m l.first l.second) l.k l.initial.table l.n)
    × (T (known (material_for l.m)) → l.n < l.to → (l.n % 64 ≡ 0 → ⊥) → RowOf l.m l.n l.row)
