pub mod Lists
pub mod Answers
pub mod ListLaws
pub mod Counting
