pub mod MoveBytes
pub mod Stored
