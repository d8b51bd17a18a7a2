pub mod Front
pub mod Case
pub mod Stage
pub use Rattle.isl_math.specs.Order
pub use Rattle.isl_piece.specs.System
