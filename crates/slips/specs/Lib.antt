pub mod Slip
pub mod Fits
pub mod Appending
