-- One step where the greatest byte lent is known. Definitions only.
use Rattle.std.specs.Prelude.{Bool, cond, List, ℕ, zero, suc, ◌+◌, leb}
use Rattle.table_theory.specs.Tables.{Numbering}
use Rattle.table_theory.specs.Steps.{step_at}
use Rattle.rules.specs.Chess.{chess}
use Rattle.filling.specs.Steps.{Taken, taken_of}

-- the greatest byte lent is that of depth k or more
abbrev pub deeper_than : ℕ → ℕ → Bool
deeper_than deepest k = leb (2 + k) deepest

-- what counts as the last depth settled before the step for depth k
abbrev pub last_of : ℕ → ℕ → ℕ → ℕ
last_of zero last deepest = zero
last_of (suc k) last deepest = cond (leb (2 + k) deepest) last (suc k)

unfoldable pub step_over : Numbering chess → ℕ → ℕ → ℕ → List ℕ → Taken
step_over N deepest k last t = taken_of (step_at chess N (deeper_than deepest) k last t)
