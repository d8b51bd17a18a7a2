pub mod Gist
pub mod Halves
pub mod Meeting
pub mod Pieces
pub mod Thinned
