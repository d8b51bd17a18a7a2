pub mod Side
pub mod Bound
pub mod Directed
pub mod Ends
pub mod Step
pub mod Aligned
pub mod Head
pub mod Pruned
