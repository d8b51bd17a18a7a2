pub mod Lines
pub mod Parts
pub mod Typed
pub mod Place
pub mod Walk
pub use Rattle.isl_space.specs.Name
pub use Rattle.isl_space.specs.Names
pub use Rattle.isl_tree.specs.Known
