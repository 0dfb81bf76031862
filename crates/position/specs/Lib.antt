pub mod Keyed
pub mod Refusals
pub mod Posed
pub mod Spread
pub mod Over
pub mod Pieces
pub mod Maps
pub mod Owned
