pub mod SymmetryLaws
pub mod ReachMapped
pub mod Opposite
pub mod LongestLine
