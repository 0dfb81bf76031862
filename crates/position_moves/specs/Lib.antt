pub mod InPosition
