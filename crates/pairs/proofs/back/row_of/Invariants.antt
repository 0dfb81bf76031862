-- `pairs::row_of` meets its contract: what is left of the search gives what the whole gives.
use mathlib.Core.Path.{◌≡◌}
use Prim.Native.Nat.{◌-◌, ◌≤◌}
use Rattle.pairs.specs.Tables.{row_from, row_of}
use Rattle.pairs.proofs.back.row_of.Given as goal

abbrev pub invariant-loop-i : goal.invariant-loop-i
invariant-loop-i l = (l.i ≤ 9) × (row_from (9 - l.i) l.i l.pair ≡ row_of l.pair)
