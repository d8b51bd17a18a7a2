pub mod ExprText
pub mod LoopText
pub mod Rest
pub mod Size
pub use Rattle.isl_row_text.specs.Joined
pub use Rattle.isl_row_text.specs.Naming
pub use Rattle.isl_row_text.specs.RowText
pub use Rattle.isl_row_text.specs.Sum
