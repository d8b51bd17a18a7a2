pub mod Beaten
pub mod Fault
pub mod Systems
pub mod Pieces
pub use Rattle.isl_relation.specs.Extremes
pub use Rattle.isl_relation.specs.Orders
pub use Rattle.isl_union.specs.KeptValue
pub use Rattle.isl_union.specs.Numbers
