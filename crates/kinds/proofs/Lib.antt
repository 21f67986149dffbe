pub mod Laws
mod Figures
