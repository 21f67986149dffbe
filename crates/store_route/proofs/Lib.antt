pub mod Laws
mod Seen
