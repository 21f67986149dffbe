pub mod Outcome
mod Early
mod Steps
pub mod Laws
