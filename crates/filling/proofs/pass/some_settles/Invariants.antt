-- `filling::some_settles` meets its contract. The loop's invariant: no number below n is settled.
use mathlib.Core.Path.{◌≡◌}
use mathlib.Core.Bool.{false}
use Rattle.rules.specs.Chess.{chess}
use Rattle.working_back.specs.Admitted.{over}
use Rattle.filling.proofs.laws.Laws.{some_below}
use Rattle.filling.proofs.pass.some_settles.Given as goal

abbrev pub invariant-loop-n : goal.invariant-loop-n
invariant-loop-n l = some_below chess (over l.m l.first l.second) l.k l.table l.n ≡ false
