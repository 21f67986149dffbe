-- Laws of the definitions in specs/, for the crates above.
pub mod Answer
pub mod Sound
