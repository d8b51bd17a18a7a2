pub mod Stencil
pub use Rattle.isl_script.specs.Script
