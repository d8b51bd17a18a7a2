pub mod FormLaws
pub mod BoundLaws
pub mod ExprLaws
pub mod EndsLaws
pub mod StepLaws
pub mod HeadLaws
pub mod FirstLaws
pub mod PrunedLaws
