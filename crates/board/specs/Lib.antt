pub mod Square
pub mod Reach
pub mod Walk
pub mod Sets
pub mod EmptyBoard
pub mod SetLaws
pub mod StepLaws
