-- `working_back::find_saviour` meets its contract. The loop's invariant: the squares left are among those asked.
use Prim.Native.Nat.{ℕ, ◌<◌}
use lib.Dec.{T}
use Rattle.board.specs.Sets.{has}
use Rattle.working_back.proofs.spared.find_saviour.Given as goal

abbrev pub invariant-loop-t : goal.invariant-loop-t
invariant-loop-t l = (s : ℕ) → s < 64 → T (has l.t-iterator.left s) → T (has l.goals s)
