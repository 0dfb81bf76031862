pub mod Pocket
pub mod TrueValue
pub mod Classes
pub mod Digits
pub mod Tally
