pub mod Ending
pub mod Answers
pub mod Truth
pub mod GamePromise
pub mod CheckedTrue
pub mod MoveTurned
pub mod FilledTrue
