pub mod Endings
pub mod Answers
pub mod NumberLaws
pub mod BackLaws
pub mod Least
pub mod Seats
pub mod Arranging
pub mod Moving
