pub mod Laws
mod Rows
