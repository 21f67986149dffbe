pub mod Laws
mod Putting
mod Pieces
mod Loops
