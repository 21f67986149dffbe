pub mod Laws
mod Asking
mod Reading
mod Whole
mod Figures
