pub mod BoundedLaws
pub mod ClosedLaws
pub mod EndLaws
pub mod NumberLaws
pub mod TowerLaws
