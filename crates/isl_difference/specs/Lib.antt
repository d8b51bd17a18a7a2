pub mod Bounds
pub mod Cover
pub mod Difference
pub mod Split
pub mod Tame
pub mod Told
pub mod Weight
pub use Rattle.isl_difference.specs.Difference
