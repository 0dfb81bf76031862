pub mod Lines
pub mod Streamed
pub mod Laws
pub mod Holding
pub mod Written
pub mod Served
