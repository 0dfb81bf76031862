pub mod PawnNumber
pub mod Places
pub mod PawnNumberCases
