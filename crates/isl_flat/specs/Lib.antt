pub mod Flat
pub mod Simple
pub mod Size
pub use Rattle.isl_space.specs.Name
pub use Rattle.isl_kinds.specs.Parts
