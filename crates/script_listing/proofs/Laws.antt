-- Laws of the definitions in specs/, for the crates above.
pub mod Lengths
pub mod Sends
pub mod Figures
