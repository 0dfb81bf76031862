-- The directions left give what all give.
use mathlib.Core.Path.{◌≡◌}
use mathlib.Core.Bool.{Bool}
use Prim.Native.Nat.{ℕ, ◌-◌}
use Rattle.finite.specs.Members.{any}
use Rattle.finite.specs.Numbers.{numbers}
use Rattle.board.specs.Sets.{has}
use Rattle.board.specs.Walk.{meets_first}
use Rattle.board.proofs.walks.meets.Given as goal

-- a walk in one of the directions k up to end meets t first
abbrev pub ways : ℕ → ℕ → ℕ → ℕ → ℕ → Bool
ways occ from end t k = any (meets_first (has occ) from t) (numbers (end - k) k)

abbrev pub invariant-loop-direction : goal.invariant-loop-direction
invariant-loop-direction l = ways l.occ l.from l.end l.t l.first ≡ ways l.occ l.from l.end l.t l.direction

abbrev pub decreases-loop-direction : goal.decreases-loop-direction
decreases-loop-direction l = l.end - l.direction
