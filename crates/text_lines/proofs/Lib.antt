pub mod Laws
mod Gathering
