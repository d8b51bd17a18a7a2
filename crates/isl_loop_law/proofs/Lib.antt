pub mod WordLaws
pub mod NameLaws
pub mod SignLaws
pub mod ExprLaws
mod TermLaws
mod SideLaws
mod LeftLaws
mod RowLaws
mod NodeLaws
pub mod LoopLaws
mod TraceLaws
