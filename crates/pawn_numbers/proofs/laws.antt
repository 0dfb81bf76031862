pub mod FlipLaws
pub mod FlippedMoves
pub mod NormalPawn
pub mod SameNumber
pub mod BackLaws
pub mod PlaceLaws
