pub mod Laws
mod Figures
mod Reading
mod Writing
