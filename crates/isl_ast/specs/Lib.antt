pub mod Value
pub mod Called
pub mod Run
pub mod Size
pub use Rattle.isl_meter.specs.Gauge
pub mod CallText
pub use Rattle.isl_row_text.specs.Joined
