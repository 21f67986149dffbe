pub mod Broken
pub mod Libraries
pub mod Runs
