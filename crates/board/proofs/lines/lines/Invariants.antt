use mathlib.Core.Path.{◌≡◌}
use mathlib.Core.Bool.{Bool, ◌||◌}
use Prim.Native.Nat.{ℕ, ◌-◌, ◌<◌}
use Rattle.finite.specs.Members.{any}
use Rattle.finite.specs.Numbers.{numbers}
use Rattle.board.specs.Reach.{line_of}
use Rattle.board.specs.Sets.{has}
use Rattle.board.specs.SetLaws.{bit}
use Rattle.board.specs.StepLaws.{IsStep}
use Rattle.board.proofs.laws.WalkBits.{left}
use Rattle.board.proofs.lines.lines.Given as goal

-- one of the lines k up to end leads to t
abbrev pub ways : ℕ → ℕ → ℕ → ℕ → ℕ → Bool
ways occ from end k t = any (line_of (has occ) 0 from t) (numbers (end - k) k)

-- the set holds the squares of the lines before the k-th
pub record Lines (occ from first end set k : ℕ) : Type 0 where
  pub rest : (t : ℕ) → t < 64 → ways occ from end first t ≡ (has set t || ways occ from end k t)

-- it holds the first squares of the next line besides, all of them empty, and at is the bit of the last
pub record Walked (occ from first end k step set at : ℕ) : Type 0 where
  pub way : ℕ
  pub fits : way < 8
  pub its : IsStep step way
  pub square : ℕ
  pub on : square < 64
  pub is : at ≡ bit square
  pub rest : (t : ℕ) → t < 64
      → ways occ from end first t ≡ ((has set t || line_of (has occ) 0 square t way) || ways occ from end k t)

abbrev pub invariant-loop-at : goal.invariant-loop-at
invariant-loop-at l = Walked l.occ l.from l.first l.end l.k l.step l.set l.at

abbrev pub decreases-loop-at : goal.decreases-loop-at
decreases-loop-at l = left l.step l.at

abbrev pub invariant-lines : goal.invariant-lines
invariant-lines l = Lines l.occ l.from l.first l.end l.set l.k

abbrev pub decreases-lines : goal.decreases-lines
decreases-lines l = l.end - l.k
