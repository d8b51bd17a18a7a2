pub mod Last
pub mod Turned
pub use Rattle.isl_precedence.specs.WideAccess
pub use Rattle.isl_relation.specs.Flow
pub use Rattle.isl_relation.specs.Formed
pub use Rattle.isl_relation.specs.Wide
pub use Rattle.isl_union.specs.KeptValue
pub use Rattle.isl_union.specs.Numbers
