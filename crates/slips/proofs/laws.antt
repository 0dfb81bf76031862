pub mod Appending
pub mod Padding
pub mod Lengths
pub mod Run
pub mod Apart
