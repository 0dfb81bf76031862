pub mod OneThere
pub mod Unpinned
pub mod InPosition
