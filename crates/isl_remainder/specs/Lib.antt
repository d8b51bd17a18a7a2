pub mod Made
pub mod Over
pub mod Solved
