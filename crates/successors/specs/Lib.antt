pub mod Framing
pub mod Lone
pub mod Successors
pub mod Quiet
