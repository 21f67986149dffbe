-- Laws of the definitions in specs/, for the crates above.
pub mod Layout
pub mod Amounts
pub mod Sound
pub mod Few
pub mod Rows
pub mod Cleared
pub mod Ring
