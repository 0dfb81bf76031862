pub mod ListLaws
pub mod Finding
pub mod OneCheck
pub mod DigitLaws
pub mod Run
