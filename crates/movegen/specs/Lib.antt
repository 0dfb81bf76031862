pub mod After
pub mod Places
pub mod Reach
pub mod Passing
