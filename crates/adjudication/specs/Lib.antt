pub mod Reply
pub mod TrueSlip
