pub mod Deciding
pub mod Rows
