pub mod Live
pub mod State
pub mod Stored
pub use Rattle.isl_kinds.specs.Typed
pub use Rattle.isl_outcome.specs.End
pub use Rattle.isl_outcome.specs.Why
