pub mod Pawnless
pub mod MarkLaws
pub mod FiftyGames
pub mod SharpGames
