pub mod Pawn
pub mod Rules
pub mod Sides
pub mod Changed
pub mod Chess
pub mod Reordered
pub mod Taking
