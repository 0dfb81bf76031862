pub mod Words
pub mod Reading
pub mod HostGame
pub mod Played
pub mod Version
