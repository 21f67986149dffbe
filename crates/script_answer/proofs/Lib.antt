mod Opened
pub mod Laws
