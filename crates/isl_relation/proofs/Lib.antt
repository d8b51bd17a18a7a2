pub mod PointLaws
pub mod SeekLaws
pub mod TogetherLaws
