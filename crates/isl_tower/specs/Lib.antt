pub mod Bounded
pub mod Closed
pub mod Ends
pub mod Level
pub mod Numbers
pub mod Tower
pub mod Weight
