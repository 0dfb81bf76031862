pub mod SeatLaws
pub mod AfterLaws
pub mod WeighLaws
pub mod LoopLaws
