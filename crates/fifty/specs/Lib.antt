pub mod Marks
pub mod FiftyPromise
