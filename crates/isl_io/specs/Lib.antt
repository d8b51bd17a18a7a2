pub mod Outside
pub use Rattle.isl_math.specs.Count
