pub mod Redundant
pub use Rattle.isl_meter.specs.Gauge
pub use Rattle.isl_piece.specs.Normal
pub use Rattle.isl_piece.specs.Row
pub use Rattle.isl_piece.specs.System
