pub mod Answered
pub mod Difference
pub mod Work
pub use Rattle.isl_meter.specs.Gauge
