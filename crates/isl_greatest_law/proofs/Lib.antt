pub mod FrontLaws
pub mod BestLaws
pub mod RowLaws
pub mod StageLaws
