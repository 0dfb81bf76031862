pub mod Grammar
pub mod Typed
