-- `checking::lowest_wrong` meets its contract. The loop's invariant: the bytes below n are right, and the place at the
-- row's first number is kept.
use mathlib.Core.Path.{◌≡◌}
use Prim.Native.Nat.{◌%◌, ◌≤◌}
use lib.Dec.{T}
use lib.ListN.{length}
use Rattle.numbering.specs.Material.{known}
use Rattle.position.specs.Posed.{material_for}
use Rattle.four_men.specs.Lending.{lent}
use Rattle.deciding.specs.Rows.{RowOf}
use Rattle.checking.specs.Right.{RightBelow}
use Rattle.checking.proofs.checker.lowest_wrong.Given as goal

abbrev pub invariant-loop-n : goal.invariant-loop-n
invariant-loop-n l = (l.n ≤ length l.table) × RightBelow (material_for l.m) (lent l.first l.second) l.table l.n
    × (T (known (material_for l.m)) → (l.n % 64 ≡ 0 → ⊥) → RowOf l.m l.n l.row)
