pub use Rattle.isl_extremes.specs.Fault
pub use Rattle.isl_orders.specs.Whole
pub use Rattle.isl_relation.specs.Extremes
pub use Rattle.isl_relation.specs.Orders
