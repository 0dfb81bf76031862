pub mod PlayLaws
pub mod PlayTrue
