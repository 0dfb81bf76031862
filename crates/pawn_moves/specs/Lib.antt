pub mod PawnMoves
