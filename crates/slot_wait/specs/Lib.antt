pub mod Least
pub mod Run
