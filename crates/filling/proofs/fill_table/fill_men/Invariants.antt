-- `filling::fill_men` meets its contract. The loop's invariant: the passes left, from the table as it stands, give what
-- all passes give.
use mathlib.Core.Path.{◌≡◌}
use Prim.Native.Nat.{◌-◌, ◌≤◌}
use lib.ListN.{length}
use Rattle.table_theory.specs.Tables.{undecided, ended}
use Rattle.table_theory.specs.Lending.{passes_until}
use Rattle.rules.specs.Chess.{chess}
use Rattle.working_back.specs.Admitted.{over}
use Rattle.filling.specs.Stepping.{deeper_than, last_of}
use Rattle.working_back.specs.Trying.{Ready}
use Rattle.filling.proofs.fill_table.fill_men.Given as goal

abbrev pub invariant-loop-end : goal.invariant-loop-end
invariant-loop-end l = (l.k ≤ 254) × (length l.table ≡ length l.initial.table)
    × (last_of l.k l.last l.deepest ≡ l.last)
    × (passes_until chess (over l.m l.first l.second) (deeper_than l.deepest) (254 - l.k) l.k (ended l.last) l.table
    ≡ passes_until chess (over l.m l.first l.second) (deeper_than l.deepest) 254 0 undecided l.initial.table)
    × Ready chess (over l.m l.first l.second) l.k l.table

abbrev pub decreases-loop-end : goal.decreases-loop-end
decreases-loop-end l = 254 - l.k
