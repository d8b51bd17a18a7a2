pub mod LeastLaws
pub mod LevelLaws
pub mod LiftLaws
pub mod MirrorLaws
pub mod SpaceLaws
