-- Laws of the definitions in specs/, for the crates above.
pub mod Words
pub mod Same
pub mod Written
pub mod Cut
pub mod Sizes
