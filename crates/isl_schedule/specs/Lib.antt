pub mod Schedule
pub mod Shapes
pub mod Refused
pub mod Visits
pub mod Differ
pub mod Due
pub mod Good
