pub mod SizeLaws
pub mod FlatLaws
