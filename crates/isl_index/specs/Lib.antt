pub mod Found
pub mod Groups
pub mod Same
pub mod Stored
