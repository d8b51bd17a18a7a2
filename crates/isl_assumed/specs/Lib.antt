pub mod Assumed
pub mod Left
pub mod Region
pub mod Under
pub mod Values
pub use Rattle.isl_assumed.specs.Assumed
pub use Rattle.isl_assumed.specs.Values
