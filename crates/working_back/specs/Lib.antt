pub mod Admitted
pub mod Trying
pub mod Back
pub mod Spared
pub mod Lines
pub mod Bare
