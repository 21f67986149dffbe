pub mod Laws
mod Steps
mod Ticking
