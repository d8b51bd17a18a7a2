pub mod Hull
pub mod Values
