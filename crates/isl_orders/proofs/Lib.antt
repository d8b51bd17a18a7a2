pub mod BothLaws
pub mod CaseLaws
pub mod CompareLaws
pub mod LeftLaws
pub mod PairLaws
pub mod SystemLaws
pub mod WholeLaws
pub mod WideLaws
