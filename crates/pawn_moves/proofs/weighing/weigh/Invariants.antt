-- `weighing::weigh` meets its contract. The loop's invariant: the moves left, weighed with what was found, give what all give.
use Rattle.pawn_moves.proofs.laws.LoopLaws.{Weighing}
use Rattle.pawn_moves.proofs.weighing.weigh.Given as goal

abbrev pub invariant-loop-v : goal.invariant-loop-v
invariant-loop-v l = Weighing l.q l.byte l.table l.run l.v-items l.best l.v-index
