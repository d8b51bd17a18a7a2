pub mod Blocks
pub mod CaseRows
pub mod Cases
pub mod Left
pub use Rattle.isl_difference.specs.Split
pub use Rattle.isl_elim.specs.Elimination
pub use Rattle.isl_math.specs.Order
pub use Rattle.isl_piece.specs.System
