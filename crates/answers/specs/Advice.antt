-- The move that an answer holds: "a move, or none for mate and stalemate" (01). Definitions only.
use Rattle.std.specs.Prelude.{Option}
use Rattle.rules.specs.declared.Move.{Move}

abbrev pub BestMove : Type 0
BestMove = Option Move
