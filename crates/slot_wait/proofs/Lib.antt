pub mod Clock
pub mod Quiet
pub mod Least
pub mod Skipped
pub mod Run
mod Steps
