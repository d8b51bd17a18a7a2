pub mod Together
pub mod Order
pub mod Groups
pub mod Shared
pub mod Strided
