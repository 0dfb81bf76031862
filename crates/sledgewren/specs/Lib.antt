pub mod Words
pub mod TypedWord
pub mod OpinionWord
pub mod PocketWords
pub mod SetWords
pub mod TypedReading
pub mod StepWord
