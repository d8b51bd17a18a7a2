pub mod InversePlaces
pub mod InverseLaws
pub mod CopiedLaws
pub mod ElementLaws
pub mod ZippedLaws
pub mod SystemImages
pub mod ChangeLaws
pub mod WideLaws
