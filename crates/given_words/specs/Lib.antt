pub mod Bits
pub mod Men
pub mod Endings
