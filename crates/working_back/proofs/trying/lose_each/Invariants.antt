-- `working_back::lose_each` meets its contract. The loop's invariant: the squares that are no longer in the rest have been tried.
use Prim.Native.Nat.{ℕ, ◌^◌, ◌<◌}
use lib.Dec.{T}
use lib.ListN.{length}
use Rattle.board.specs.Sets.{has, members}
use Rattle.working_back.proofs.laws.Sources.{Taken}
use Rattle.working_back.proofs.trying.lose_each.Given as goal

abbrev pub invariant-loop-rest : goal.invariant-loop-rest
invariant-loop-rest l = (l.rest < 2 ^ 64)
    × ((s : ℕ) → s < 64 → T (has l.rest s) → T (has l.squares s))
    × Taken l.m l.first l.second l.k l.q l.taken l.to l.squares l.initial.table l.table l.rest l.settled

abbrev pub decreases-loop-rest : goal.decreases-loop-rest
decreases-loop-rest l = length (members l.rest)
