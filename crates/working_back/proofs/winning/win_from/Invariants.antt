-- `working_back::win_from` meets its contract. The loop's invariant: the squares that are no longer in the rest have been tried.
use Prim.Native.Nat.{ℕ, ◌<◌}
use lib.Dec.{T}
use Rattle.board.specs.Sets.{has}
use Rattle.working_back.proofs.laws.Sources.{Taken}
use Rattle.working_back.proofs.winning.win_from.Given as goal

abbrev pub invariant-loop-s : goal.invariant-loop-s
invariant-loop-s g l = ((s : ℕ) → s < 64 → T (has l.s-iterator.left s) → T (has l.squares s))
    × Taken l.m l.first l.second l.k l.q l.taken l.to l.squares l.initial.table l.table l.s-iterator.left l.settled
