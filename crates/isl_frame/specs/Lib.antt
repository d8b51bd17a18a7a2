pub mod Frame
pub mod Sum
pub mod Needed
