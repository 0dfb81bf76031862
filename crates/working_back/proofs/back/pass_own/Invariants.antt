-- `working_back::pass_own` meets its contract. The loop's invariant: all have been tried that lead to a number below j with the depth before, and j is the
-- next such number or the table's end.
use mathlib.Core.Path.{◌≡◌}
use Prim.Native.Nat.{◌+◌, ◌≤◌, ◌<◌, ◌-◌}
use lib.ListN.{length, get_or}
use Rattle.rules.specs.Chess.{chess}
use Rattle.working_back.specs.Admitted.{over}
use Rattle.working_back.specs.Trying.{Alive}
use Rattle.working_back.specs.Back.{SweepsOwn}
use Rattle.working_back.proofs.back.pass_own.Given as goal

abbrev pub invariant-loop-j : goal.invariant-loop-j
invariant-loop-j l = (l.j ≤ length l.initial.table) × (l.j < length l.table → get_or l.table l.j 0 ≡ 1 + l.k)
    × SweepsOwn l.m l.first l.second l.k l.j l.initial.table l.table l.settled
    × Alive chess (over l.m l.first l.second) l.table

abbrev pub decreases-loop-j : goal.decreases-loop-j
decreases-loop-j l = length l.initial.table - l.j
