pub mod Tried
pub mod Opinions
pub mod TrueOpinion
