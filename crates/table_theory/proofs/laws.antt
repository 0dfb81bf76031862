pub mod Acceptance
pub mod Passing
pub mod Filling
pub mod LendingLaws
pub mod LentFilling
pub mod StepLaws
pub mod StepsTrue
