pub mod OverLaws
pub mod VisitLaws
pub mod TimeLaws
pub mod CheckLaws
pub mod GoodLaws
