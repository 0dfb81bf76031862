pub mod EmptyBoard
