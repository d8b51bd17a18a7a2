pub mod PutBack
pub use Rattle.isl_flat.specs.Flat
pub use Rattle.isl_flat.specs.Simple
