pub mod Sums
pub mod Reaching
pub mod Promoting
pub mod Limit
