-- Laws of the definitions in specs/, for the crates above.
pub mod Put
pub mod Word
pub mod Digits
pub mod Decimal
