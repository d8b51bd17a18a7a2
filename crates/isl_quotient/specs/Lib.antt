-- inner
pub mod Candidate
pub mod Given
pub mod Kept
pub mod Opened
pub mod Pair
pub mod Quotient
pub mod Told
pub mod Turned
