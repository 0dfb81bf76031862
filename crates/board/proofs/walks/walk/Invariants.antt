-- What is left of the walk, from the square come to, is what the whole gives.
use mathlib.Core.Path.{◌≡◌}
use Prim.Native.Nat.{ℕ, ◌<◌}
use Rattle.board.specs.Sets.{has}
use Rattle.board.specs.SetLaws.{bit}
use Rattle.board.specs.Walk.{walk_of}
use Rattle.board.proofs.laws.WalkBits.{left}
use Rattle.board.proofs.walks.walk.Given as goal

-- at is the bit of a square from which the walk goes on
pub record Walking (occ from direction at : ℕ) : Type 0 where
  pub square : ℕ
  pub on : square < 64
  pub is : at ≡ bit square
  pub rest : walk_of (has occ) from direction ≡ walk_of (has occ) square direction

abbrev pub invariant-loop-at : goal.invariant-loop-at
invariant-loop-at l = Walking l.occ l.from l.direction l.at

abbrev pub decreases-loop-at : goal.decreases-loop-at
decreases-loop-at l = left l.step l.at
