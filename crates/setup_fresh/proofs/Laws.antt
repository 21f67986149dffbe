-- Laws of the definitions in specs/, for the crates above.
pub mod Written
pub mod Fresh
