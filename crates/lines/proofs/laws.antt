pub mod Shapes
pub mod NumberLines
pub mod TypedLaws
pub mod WrittenLines
pub mod Run
pub mod Requests
