pub mod Claim
pub mod Sides
pub use Rattle.isl_refute.specs.CertText
pub use Rattle.isl_refute.specs.Refutes
pub use Rattle.isl_union.specs.Compare
pub use Rattle.isl_union.specs.KeptValue
