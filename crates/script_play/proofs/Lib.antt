mod Front
mod Links
mod Lengths
mod Lines
pub mod Laws
