pub mod Cutter
pub mod Script
