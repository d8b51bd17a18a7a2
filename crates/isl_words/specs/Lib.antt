pub mod Number
pub mod Binding
pub mod Adding
pub mod Options
pub mod Taken
pub use Rattle.isl_space.specs.Name
