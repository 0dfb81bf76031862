pub mod TableLaws
pub mod PairRule
pub mod PackedKings
pub mod RowLaws
