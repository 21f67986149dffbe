-- Laws of the store's links and rows.
pub mod Counting
pub mod Listed
