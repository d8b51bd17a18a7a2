pub mod Count
pub mod Divide
pub mod Dot
pub mod Gcd
pub mod Order
