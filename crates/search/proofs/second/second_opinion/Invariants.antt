-- `search::second_opinion` meets its contract. The loop's invariant: the position is decided in none of the depths below n.
use Rattle.position.specs.Keyed.{board_of}
use Rattle.search.proofs.laws.OpinionLaws.{NoneBelow}
use Rattle.search.proofs.second.second_opinion.Given as goal

abbrev pub invariant-loop-n : goal.invariant-loop-n
invariant-loop-n l = NoneBelow (board_of l.p) l.n
