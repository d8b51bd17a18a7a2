pub mod Spaces
pub mod Titles
pub use Rattle.isl_union.specs.Minus
