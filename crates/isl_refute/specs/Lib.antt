pub mod Refutes
pub mod Visited
pub mod Passes
pub mod CertText
pub mod Parts
pub mod Checked
pub use Rattle.isl_piece.specs.Row
pub use Rattle.isl_piece.specs.System
