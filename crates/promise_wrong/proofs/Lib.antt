pub mod Broken
pub mod Wrong
