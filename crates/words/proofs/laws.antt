pub mod ReadingLaws
pub mod AnswersFit
pub mod HostGames
pub mod PlayedLaws
