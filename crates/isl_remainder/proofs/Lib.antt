pub mod ColumnLaws
pub mod LimitLaws
pub mod MadeLaws
pub mod OverLaws
pub mod SolvedLaws
