pub mod End
pub mod Why
