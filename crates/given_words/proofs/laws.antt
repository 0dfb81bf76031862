pub mod BitLaws
pub mod MenLaws
pub mod EndingLaws
