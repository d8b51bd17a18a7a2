pub mod BlockLaws
pub mod CaseLaws
pub mod LeftLaws
pub mod PickLaws
pub mod ResultLaws
pub mod RowLaws
pub mod SpreadLaws
pub mod WidthLaws
