pub mod Claims
pub mod Desk
pub mod OneMan
