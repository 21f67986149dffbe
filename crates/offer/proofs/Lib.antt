pub mod Facts
mod Steps
pub mod Outcome
pub mod Laws
