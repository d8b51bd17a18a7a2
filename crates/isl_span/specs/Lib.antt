pub mod Spanned
pub mod Forms
pub mod Independent
pub mod Points
pub mod Moved
pub mod Chain
pub mod Work
