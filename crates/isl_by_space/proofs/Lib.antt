pub mod OnceLaws
pub mod ResultLaws
pub mod SpaceLaws
pub mod SystemLaws
pub mod PlaceLaws
