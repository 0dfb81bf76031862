pub mod Tables
pub mod Lending
pub mod Steps
