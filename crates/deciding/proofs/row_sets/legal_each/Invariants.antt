-- `row_sets::legal_each` meets its contract. The loop's invariant: of the squares below s the set holds those asked for.
use mathlib.Core.Path.{◌≡◌}
use mathlib.Core.Bool.{◌&&◌}
use Prim.Native.Nat.{ℕ, ◌+◌, ◌*◌, ◌/◌, ◌<◌, ◌≤◌}
use lib.Dec.{ltb}
use Rattle.board.specs.Sets.{has}
use Rattle.position.specs.Posed.{material_for}
use Rattle.four_men.specs.Reading.{legal_number_of}
use Rattle.deciding.specs.Rows.{RowOf}
use Rattle.deciding.proofs.row_sets.legal_each.Given as goal

abbrev pub invariant-loop-s : goal.invariant-loop-s
invariant-loop-s l = (l.s ≤ 64)
    × (RowOf l.m l.n l.row → (u : ℕ) → u < 64 → has l.legal u ≡ (ltb u l.s && legal_number_of (material_for l.m) (l.n / 64 * 64 + u)))
