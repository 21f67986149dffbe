pub mod Lines
pub mod Gathered
