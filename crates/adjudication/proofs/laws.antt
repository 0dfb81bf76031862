pub mod Laws
pub mod OneSlip
pub mod Apart
pub mod Short
pub mod Typed
