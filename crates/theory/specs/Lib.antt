pub mod Game
pub mod Value
pub mod Required
pub mod Play
pub mod Fifty
pub mod Alike
pub mod Verdict
pub mod Judge
