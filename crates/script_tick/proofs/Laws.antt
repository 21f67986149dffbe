-- Laws of the definitions in specs/, for the crates above.
pub mod Turns
pub mod Skips
