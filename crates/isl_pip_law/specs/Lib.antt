pub mod Least
pub mod Levels
pub mod Lift
pub mod Mirror
