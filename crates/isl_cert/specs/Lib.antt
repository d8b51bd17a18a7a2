pub mod Bound
pub mod Living
pub use Rattle.isl_difference.specs.Difference
pub use Rattle.isl_difference.specs.Tame
pub use Rattle.isl_ledger.specs.Answered
pub use Rattle.isl_ledger.specs.Difference as DifferenceRows
pub use Rattle.isl_ledger.specs.Work
pub use Rattle.isl_refute.specs.Refutes
pub use Rattle.isl_refute.specs.Visited
pub use Rattle.isl_refute.specs.Passes
pub use Rattle.isl_refute.specs.Parts
