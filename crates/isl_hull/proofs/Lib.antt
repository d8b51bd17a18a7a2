pub mod PieceLaws
pub mod HullLaws
pub mod BoundLaws
